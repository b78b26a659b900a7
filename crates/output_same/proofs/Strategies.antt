-- A group does over a host what it does over another one that answers alike.
use Rattle.std.proofs.Common.{◌≡◌, ℕ, suc, ◌≤◌, List, [], ◌∷◌, Option, Some, None, refl, sym, ◌∙◌, ap, subst, arith}
use Rattle.std.specs.Option.{option_map}
use Rattle.core_store.specs.declared.value.CoreValue.{CoreValue}
use Rattle.wit_types.specs.Plain.{Plain}
use Rattle.host_port.specs.declared.call.Resource.{Resource}
use Rattle.host_port.specs.Calls.{PlainCall, PlainAnswer, PlainObservation, Gives, Trap, Ended, Bad, Returned}
use Rattle.host_port.specs.Hosts.{HostStep}
use Rattle.comp_worlds.specs.Acts.{then_do, Act, ◌>>◌, gives, shows}
use Rattle.comp_worlds.specs.Passing.{Passed, answer_tuple, out_of_tuple}
use Rattle.comp_worlds.specs.Groups.{Nesting, Import, Target, Mine, Theirs, Func, LoweredFunc, ResourceNew, ResourceDrop, ResourceRep, Stage, Provides, Makes, Begins, Group, World, Due, Below, Answer, Origin, Inside, Outside, Ports}
use Rattle.comp_worlds.specs.Calls.{set, below, during, leaves, drops, runs, deep_enough, answers_if, does_all, is_made}
use Rattle.comp_worlds.specs.Hosts.{call_of, answered_by, reacts, loses, stays, asks_host, hosted}
use Rattle.comp_worlds.specs.Observed.{first_state, Call, without_handles, asks_export, leaves_export, makes_calls, runs_calls}
use Rattle.comp_worlds.proofs.Joint.{set_all, set_here, set_there}
use Rattle.comp_worlds.specs.Parts.{target_to, func_to, stages_to, Embeds}
use Rattle.comp_worlds.proofs.Exact.{Equals, Exact, exact_less, exact_then, exact_gives, exact_gives_first, exact_traps, exact_call}
use Rattle.comp_worlds.proofs.Embedding.{Eq, DueTo, Answers_as, LeadsTo, KnownIn, InStep, exact_runs, exact_answers, exact_leaves, exact_all}
use Rattle.comp_worlds.proofs.Whole.{equals_observed, equals_seen, nothing_before}
use Rattle.comp_worlds.proofs.Fair.{Under, exact_below}
use Rattle.output_same.specs.Strategies.{Asked, state_after, strategy, IsItsStrategy}

-- ---- a group in itself

func_itself : (f : Option Func) → f ≡ option_map (func_to (λ k. k) Theirs) f
func_itself None = refl
func_itself (Some (LoweredFunc (Mine k lifting) options)) = refl
func_itself (Some (LoweredFunc (Theirs f) options)) = refl
func_itself (Some (ResourceNew r)) = refl
func_itself (Some (ResourceDrop r)) = refl
func_itself (Some (ResourceRep r)) = refl

target_itself : (o : Option Target) → option_map (target_to (λ k. k) Theirs) o ≡ o
target_itself None = refl
target_itself (Some (Mine k lifting)) = refl
target_itself (Some (Theirs f)) = refl

stages_itself : (list : List Stage) → stages_to (λ k. k) list ≡ list
stages_itself [] = refl
stages_itself (Provides k ty number ∷ rest) = ap (λ z. Provides k ty number ∷ z) (stages_itself rest)
stages_itself (Makes k make start ∷ rest) = ap (λ z. Makes k make start ∷ z) (stages_itself rest)
stages_itself (Begins ∷ rest) = ap (λ z. Begins ∷ z) (stages_itself rest)

embeds_itself : (G : Group) → Embeds G G (λ k. k) Theirs
embeds_itself G = record { canons = λ k n. func_itself (G.canons k n); owner = λ r o e. e; owns_no_more = λ k r. refl }

abbrev Any_import : Import → Type 0
Any_import f = Unit {0}

abbrev Any_resource : ℕ → Type 0
Any_resource r = Unit {0}

any_leads : (t : Target) → LeadsTo Any_import t
any_leads (Mine k lifting) = tt
any_leads (Theirs f) = tt

any_known : (f : Option Func) → KnownIn Any_import Any_resource f
any_known None = tt
any_known (Some (LoweredFunc (Mine m lifting) options)) = tt
any_known (Some (LoweredFunc (Theirs f) options)) = tt
any_known (Some (ResourceNew r)) = tt
any_known (Some (ResourceDrop r)) = tt
any_known (Some (ResourceRep r)) = tt

both_deep : {W V X Y : Type 0} → (b : ℕ) (P : W → X → V → Y → Type 0) (x : ℕ → Act W X) (y : ℕ → Act V Y) (w : W) (v : V) → ((n : ℕ) → Equals n P (x (suc n) w n) (y (suc n) v n)) → Exact b P (deep_enough x w) (deep_enough y v)
unfolding deep_enough
both_deep b P x y w v h n lt = h n

-- ---- over two hosts

-- from related states they answer alike, and stay related
record Alike {S T : Type 0} (h : HostStep S) (h' : HostStep T) (Rel : S → T → Type 0) : Type 0 where
  seen : (s : S) (t : T) (c : PlainCall) → Rel s t → (h.call s c).seen ≡ (h'.call t c).seen
  answer : (s : S) (t : T) (c : PlainCall) → Rel s t → (h.call s c).answer ≡ (h'.call t c).answer
  next : (s : S) (t : T) (c : PlainCall) → Rel s t → Rel (h.call s c).next (h'.call t c).next
  lost : (s : S) (t : T) (r : Resource) (x : ℕ) → Rel s t → (h.drop s r x).seen ≡ (h'.drop t r x).seen
  left : (s : S) (t : T) (r : Resource) (x : ℕ) → Rel s t → Rel (h.drop s r x).next (h'.drop t r x).next

module _ {S T : Type 0} (h : HostStep S) (h' : HostStep T) (Rel : S → T → Type 0) (alike : Alike h h' Rel) where
  abbrev p : Ports S
  p = hosted h

  abbrev q : Ports T
  q = hosted h'

  -- ---- what the hosts do

  answered : (P : S → Answer → T → Answer → Type 0) → ((s : S) (t : T) (a : Answer) → Rel s t → P s a t a) → (n : ℕ) (o o' : List PlainObservation) (s : S) (t : T) (ty : Plain) (a a' : PlainAnswer) → o ≡ o' → a ≡ a' → Rel s t
      → Equals n P (answered_by o s ty a n) (answered_by o' t ty a' n)
  answered P from n o o' s t ty a a' e same r = subst (λ z. Equals n P (answered_by o s ty a n) (answered_by o' t ty z n)) same (at a)
    where
      at : (z : PlainAnswer) → Equals n P (answered_by o s ty z n) (answered_by o' t ty z n)
      at (Gives value) = (e, refl, omega arith, from s t _ r)
      at Trap = (e, refl)
      at Ended = (e, refl)
      at Bad = (e, refl)

  reacts_alike : (P : S → Answer → T → Answer → Type 0) → ((s : S) (t : T) (a : Answer) → Rel s t → P s a t a) → (b : ℕ) (f : Import) (passed : Passed ℕ) (s : S) (t : T) → Rel s t → Exact b P (reacts h f passed s) (reacts h' f passed t)
  unfolding reacts
  reacts_alike P from b f passed s t r n lt =
      let c : PlainCall = call_of f passed in
      answered P from n (h.call s c).seen (h'.call t c).seen (h.call s c).next (h'.call t c).next (answer_tuple f.ty) (h.call s c).answer (h'.call t c).answer (alike.seen s t c r) (alike.answer s t c r) (alike.next s t c r)

  asks_host_alike : (P : S → Answer → T → Answer → Type 0) → ((s : S) (t : T) (a : Answer) → Rel s t → P s a t a) → (b : ℕ) (d : Nesting) (o : Origin) (f : Import) (passed : Passed ℕ) (s : S) (t : T) → Rel s t → Exact b P (asks_host h d o f passed s) (asks_host h' d o f passed t)
  asks_host_alike P from b d Inside f passed s t r = reacts_alike P from b f passed s t r
  asks_host_alike P from b d Outside f passed s t r =
      exact_less (suc b) b P (asks_host h d Outside f passed s) (asks_host h' d Outside f passed t) (omega arith)
      (exact_call b d P (λ _. reacts h f passed) (λ _. reacts h' f passed) s t (reacts_alike P from b f passed s t r))

  stays_alike : (P : S → Unit {0} → T → Unit {0} → Type 0) → ((s : S) (t : T) (a : Unit {0}) → Rel s t → P s a t a) → (b : ℕ) (s : S) (t : T) → Rel s t → Exact b P (stays s) (stays t)
  unfolding stays
  stays_alike P from b s t r n lt = (refl, refl, omega arith, from s t tt r)

  loses_alike : (P : S → Unit {0} → T → Unit {0} → Type 0) → ((s : S) (t : T) (a : Unit {0}) → Rel s t → P s a t a) → (b : ℕ) (resource : Resource) (x : ℕ) (s : S) (t : T) → Rel s t → Exact b P (loses h resource x s) (loses h' resource x t)
  unfolding loses
  loses_alike P from b resource x s t r n lt = (alike.lost s t resource x r, refl, omega arith, from _ _ tt (alike.left s t resource x r))

  -- the same instances, over related states
  record Beside (w : World S) (v : World T) : Type 0 where
    here : (k : ℕ) → w.configs k ≡ v.configs k
    under : Rel w.below v.below

  module _ (G : Group) where
    abbrev Over : {A : Type 0} → World S → World T → S → A → T → A → Type 0
    Over w v s a t b = Eq Beside (record { configs = w.configs; below = s }) a (record { configs = v.configs; below = t }) b

    over : {A : Type 0} → (w : World S) (v : World T) → Beside w v → (s : S) (t : T) (a : A) → Rel s t → Over w v s a t a
    over w v r s t a under = (record { here = r.here; under = under }, refl)

    step : InStep G G p q (λ k. k) Theirs Beside Under Any_import Any_resource
    step = record {
      here = λ k w v r. r.here k;
      put = λ k c w v r. record {
        here = set_all v.configs k c (λ i c'. set w.configs k c i ≡ c') (set_here w.configs k c) (λ i d. set_there w.configs k c i (λ same. d same) ∙ r.here i);
        under = r.under;
      };
      knows = λ k n. any_known (G.canons k n);
      types = λ f used. refl;
      nests = λ d due t is. ap (during d) is;
      asks = λ b d from f passed w v used r.
          exact_gives_first b (Eq Beside) (Answers_as Beside Under) (below (p.ask d from f passed)) (below (q.ask d from f passed)) (λ a. record { passed = a.passed; due = Below a.due }) w v
          (λ w' a v' a' k. (k.0, ap (λ z. z.passed) k.1, ap (λ z. Below z.due) k.1))
          (exact_below b (Eq Beside) (p.ask d from f passed) (q.ask d from f passed) w v (asks_host_alike (Over w v) (over w v r) b d from f passed w.below v.below r.under));
      leaves = λ b d due t w v is r.
          subst (λ z. Exact b (Eq Beside) (leaves G p (runs G p b) d z w) (below (q.leave d t) v)) (sym is)
          (exact_below b (Eq Beside) (p.leave d t) (q.leave d t) w v (stays_alike (Over w v) (over w v r) b w.below v.below r.under));
      drops = λ b d r x w v known none r'.
          subst (λ z. Exact b (Eq Beside) (drops G p (runs G p b) d r x z w) (below (q.drop d (G.imported r) x) v)) (sym none)
          (exact_below b (Eq Beside) (p.drop d (G.imported r) x) (q.drop d (G.imported r) x) w v (loses_alike (Over w v) (over w v r') b (G.imported r) x w.below v.below r'.under));
    }

    abbrev Owes : Due → Due → Type 0
    Owes d t = DueTo (λ k. k) Under d t

    abbrev Any : World S → Unit {0} → World T → Unit {0} → Type 0
    Any w a v b = Unit {0}

    run : (n m m' : ℕ) → n ≤ m → n ≤ m' → (d : Nesting) (k f : ℕ) (args : List CoreValue) (w : World S) (v : World T) → Beside w v → Exact n (Eq Beside) (runs G p m d k f args w) (runs G q m' d k f args v)
    run n m m' le le' = exact_runs G G p q (λ k. k) Theirs Beside Under Any_import Any_resource (embeds_itself G) step n m m' le le'

    asks_alike : (b : ℕ) (d : Nesting) (call : Call) (w : World S) (v : World T) → Beside w v → Exact b (Answers_as Beside Owes) (asks_export G p d call w) (asks_export G q d call v)
    asks_alike b d call w v r =
        both_deep b (Answers_as Beside Owes) _ _ w v
        (λ n. subst (λ z. Equals n (Answers_as Beside Owes) (answers_if G p (runs G p (suc n)) d Outside z (without_handles call) w n) (answers_if G q (runs G q (suc n)) d Outside (G.exports call.interface call.function) (without_handles call) v n)) (target_itself (G.exports call.interface call.function))
        (at n (G.exports call.interface call.function) n (omega arith)))
      where
        at : (n : ℕ) (o : Option Target) → Exact (suc n) (Answers_as Beside Owes) (answers_if G p (runs G p (suc n)) d Outside (option_map (target_to (λ k. k) Theirs) o) (without_handles call) w) (answers_if G q (runs G q (suc n)) d Outside o (without_handles call) v)
        at n None = exact_traps (suc n) (Answers_as Beside Owes) w v
        at n (Some t) = exact_answers G G p q (λ k. k) Theirs Beside Under Any_import Any_resource (embeds_itself G) step (suc n) (suc n) (suc n) (omega arith) (run (suc n) (suc n) (suc n) (omega arith) (omega arith)) d Outside t (any_leads t) (without_handles call) w v r

    leaves_alike : (b : ℕ) (d : Nesting) (due due' : Due) (w : World S) (v : World T) → Owes due due' → Beside w v → Exact b (Eq Beside) (leaves_export G p d due w) (leaves_export G q d due' v)
    leaves_alike b d due due' w v is r =
        both_deep b (Eq Beside) _ _ w v
        (λ n. exact_leaves G G p q (λ k. k) Theirs Beside Under Any_import Any_resource (embeds_itself G) step (suc n) (suc n) (suc n) (omega arith) (run (suc n) (suc n) (suc n) (omega arith) (omega arith)) d due due' w v is r n (omega arith))

    shows_alike : (b : ℕ) (o : List PlainObservation) (w : World S) (v : World T) → Beside w v → Exact b (Eq Beside) (shows o w) (shows o v)
    unfolding shows
    shows_alike b o w v r n lt = (refl, refl, omega arith, (r, refl))

    calls_alike : (b : ℕ) (d : Nesting) (calls : List Call) (w : World S) (v : World T) → Beside w v → Exact b Any (makes_calls G p d calls w) (makes_calls G q d calls v)
    calls_alike b d [] w v r = exact_gives b Any tt tt w v tt
    calls_alike b d (call ∷ rest) w v r =
        exact_then b (Answers_as Beside Owes) Any _ _ _ _ w v (asks_alike b d call w v r)
        (λ w1 a v1 a' k.
        exact_then b (Eq Beside) Any _ _ _ _ w1 v1 (leaves_alike b d a.due a'.due w1 v1 k.2 k.0)
        (λ w2 x v2 y k2.
        exact_then b (Eq Beside) Any _ _ _ _ w2 v2 (subst (λ z. Exact b (Eq Beside) (shows (Returned (out_of_tuple z.value) ∷ []) w2) (shows (Returned (out_of_tuple a'.passed.value) ∷ []) v2)) (sym k.1) (shows_alike b (Returned (out_of_tuple a'.passed.value) ∷ []) w2 v2 k2.0))
        (λ w3 x' v3 y' k3. calls_alike b d rest w3 v3 k3.0)))

    made_alike : (b : ℕ) (d : Nesting) (w : World S) (v : World T) → Beside w v → Exact b (Eq Beside) (is_made G p d w) (is_made G q d v)
    unfolding deep_enough
    made_alike b d w v r n lt =
        subst (λ z. Equals n (Eq Beside) (does_all G p (runs G p (suc n)) d z w n) (is_made G q d v n)) (stages_itself G.stages)
        (exact_all G G p q (λ k. k) Theirs Beside Under Any_import Any_resource (embeds_itself G) step (suc n) (suc n) (suc n) (omega arith) (omega arith) d G.stages w v r n (omega arith))

    module _ (s : S) (t : T) (r : Rel s t) (d : Nesting) (calls : List Call) where
      -- nothing is below that would be made before
      made_first : {X : Type 0} → (k : HostStep X) (x : X) (n : ℕ) → runs_calls d G [] k x calls n ≡ (is_made G (hosted k) d >> λ _. makes_calls G (hosted k) d calls) (first_state (G ∷ []) x) n
      unfolding runs_calls ◌>>◌ below gives
      made_first k x n = ap (λ u. then_do u (λ _. makes_calls G (hosted k) d calls)) (nothing_before (is_made G (hosted k) d (first_state (G ∷ []) x) n))

      at_start : Beside (first_state (G ∷ []) s) (first_state (G ∷ []) t)
      at_start = record { here = λ k. refl; under = r }

      all_alike : (n : ℕ) → Equals n Any (runs_calls d G [] h s calls n) (runs_calls d G [] h' t calls n)
      all_alike n =
          subst (λ z. Equals n Any z (runs_calls d G [] h' t calls n)) (sym (made_first h s n))
          (subst (λ z. Equals n Any ((is_made G p d >> λ _. makes_calls G p d calls) (first_state (G ∷ []) s) n) z) (sym (made_first h' t n))
          (exact_then (suc n) (Eq Beside) Any _ _ _ _ (first_state (G ∷ []) s) (first_state (G ∷ []) t) (made_alike (suc n) d (first_state (G ∷ []) s) (first_state (G ∷ []) t) at_start) (λ w a v b k. calls_alike (suc n) d calls w v k.0) n (omega arith)))

-- ---- a host and its strategy

module _ {S : Type 0} (h : HostStep S) where
  abbrev Reached : S → S → List Asked → Type 0
  Reached first s before = s ≡ state_after h first before

  reached : (first : S) → Alike h (strategy h first) (Reached first)
  reached first = record {
    seen = λ s before c r. ap (λ z. (h.call z c).seen) r;
    answer = λ s before c r. ap (λ z. (h.call z c).answer) r;
    next = λ s before c r. ap (λ z. (h.call z c).next) r;
    lost = λ s before resource x r. ap (λ z. (h.drop z resource x).seen) r;
    left = λ s before resource x r. ap (λ z. (h.drop z resource x).next) r;
  }

  pub by_strategy : IsItsStrategy h
  by_strategy G s d calls n =
      let same = all_alike h (strategy h s) (Reached s) (reached s) G s [] refl d calls n in
      record { observed = equals_observed n _ _ _ same; seen = equals_seen n _ _ _ same }
