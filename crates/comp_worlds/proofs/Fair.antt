-- No more steps are left than there were.
use Rattle.std.proofs.Common.{◌≡◌, ℕ, zero, suc, ◌≤◌, List, [], ◌∷◌, Option, Some, None, Bool, true, false, refl, sym, ap, subst, arith}
use Rattle.std.specs.Option.{option_map}
use Rattle.host_port.specs.declared.call.Resource.{Resource}
use Rattle.host_port.specs.Calls.{PlainAnswer, PlainObservation, Gives, Trap, Ended, Bad}
use Rattle.host_port.specs.Hosts.{HostStep}
use Rattle.comp_worlds.specs.Acts.{Out, Next, Over, Spent, seen_before, then_do, Act, ◌>>◌, gives, traps, takes_step}
use Rattle.comp_worlds.specs.Passing.{Passed, answer_tuple}
use Rattle.comp_worlds.specs.Groups.{Nesting, has_room, Import, Target, Mine, Theirs, Func, LoweredFunc, ResourceNew, ResourceDrop, ResourceRep, Stage, Provides, Makes, Begins, Group, World, Due, Nothing, Served, Below, Origin, Inside, Outside, Ports}
use Rattle.comp_worlds.specs.Calls.{with_config, below_end, below, too_deep, if_room, finds_room, begins_call, answers, during, leaves, drops, runs, deep_enough, answers_if, drops_given, group, does_all, is_made}
use Rattle.comp_worlds.specs.Hosts.{call_of, answered_by, reacts, loses, stays, asks_host, hosted}
use Rattle.comp_worlds.specs.Observed.{State, stack, are_made}
use Rattle.comp_worlds.specs.Parts.{target_to, func_to, stages_to, Embeds}
use Rattle.comp_worlds.proofs.Exact.{Equals, Exact, exact_gives_first}
use Rattle.comp_worlds.proofs.Embedding.{Eq, DueTo, Answers_as, LeadsTo, KnownIn, InStep, exact_runs, exact_answers, exact_leaves, exact_drops, exact_all}

abbrev pub Left : {W A : Type 0} → ℕ → Out W A → Type 0
Left n (Next o l w a) = l ≤ n
Left n (Over o e) = Unit {0}
Left n (Spent o) = Unit {0}

pub record Fair {S : Type 0} (p : Ports S) : Type 0 where
  pub asks : (d : Nesting) (from : Origin) (f : Import) (passed : Passed ℕ) (s : S) (n : ℕ) → Left n (p.ask d from f passed s n)
  pub leaves : (d : Nesting) (due : Due) (s : S) (n : ℕ) → Left n (p.leave d due s n)
  pub drops : (d : Nesting) (resource : Resource) (x : ℕ) (s : S) (n : ℕ) → Left n (p.drop d resource x s n)

left_before : {W A : Type 0} → (n m : ℕ) (o : List PlainObservation) (x : Out W A) → m ≤ n → Left m x → Left n (seen_before o x)
left_before n m o (Next o' l w a) le h = omega arith
left_before n m o (Over o' e) le h = tt
left_before n m o (Spent o') le h = tt

pub left_then : {W A B : Type 0} → (x : Act W A) (go : A → Act W B) (w : W) (n : ℕ) → Left n (x w n) → ((a : A) (w' : W) (l : ℕ) → Left l (go a w' l)) → Left n ((x >> go) w n)
unfolding ◌>>◌
left_then {W} {A} x go w n h each = at (x w n) h
  where
    at : (u : Out W A) → Left n u → Left n (then_do u go)
    at (Next o l w' a) le = left_before n l o (go a w' l) le (each a w' l)
    at (Over o e) le = tt
    at (Spent o) le = tt

left_below : {S A : Type 0} → (x : Act S A) (w : World S) (n : ℕ) → Left n (x w.below n) → Left n (below x w n)
unfolding below
left_below {S} {A} x w n h = at (x w.below n) h
  where
    at : (u : Out S A) → Left n u → Left n (below_end w u)
    at (Next o l s a) le = le
    at (Over o e) le = tt
    at (Spent o) le = tt

left_begins : {W : Type 0} → (d : Nesting) (w : W) (n : ℕ) → Left n (begins_call d w n)
unfolding takes_step finds_room
left_begins {W} d w n = left_then takes_step (λ _. finds_room d) w n (steps n) (λ a w' l. room (has_room d) w' l)
  where
    steps : (n : ℕ) → Left n (takes_step w n)
    steps zero = tt
    steps (suc n) = omega arith

    deep : (l : ℕ) → Left l (too_deep {W = W} l)
    deep zero = tt
    deep (suc l) = tt

    room : (c : Bool) (w' : W) (l : ℕ) → Left l (if_room c w' l)
    room true w' l = omega arith
    room false w' l = deep l

module _ {S : Type 0} (h : HostStep S) where
  left_reacts : (import : Import) (passed : Passed ℕ) (s : S) (n : ℕ) → Left n (reacts h import passed s n)
  unfolding reacts
  left_reacts import passed s n = at (h.call s (call_of import passed)).answer
    where
      at : (a : PlainAnswer) → Left n (answered_by (h.call s (call_of import passed)).seen (h.call s (call_of import passed)).next (answer_tuple import.ty) a n)
      at (Gives value) = omega arith
      at Trap = tt
      at Ended = tt
      at Bad = tt

  left_asks : (d : Nesting) (from : Origin) (import : Import) (passed : Passed ℕ) (s : S) (n : ℕ) → Left n (asks_host h d from import passed s n)
  left_asks d Inside import passed s n = left_reacts import passed s n
  left_asks d Outside import passed s n = left_then (begins_call d) (λ _. reacts h import passed) s n (left_begins d s n) (λ a s' l. left_reacts import passed s' l)

  pub host_fair : Fair (hosted h)
  unfolding stays loses
  host_fair = record { asks = left_asks; leaves = λ d due s n. omega arith; drops = λ d resource x s n. omega arith }

-- ---- a group does in itself what it does

abbrev pub Under : Due → Due → Type 0
Under d t = d ≡ Below t

func_itself : (f : Option Func) → f ≡ option_map (func_to (λ k. k) Theirs) f
func_itself None = refl
func_itself (Some (LoweredFunc (Mine k lifting) options)) = refl
func_itself (Some (LoweredFunc (Theirs f) options)) = refl
func_itself (Some (ResourceNew r)) = refl
func_itself (Some (ResourceDrop r)) = refl
func_itself (Some (ResourceRep r)) = refl

embeds_itself : (G : Group) → Embeds G G (λ k. k) Theirs
embeds_itself G = record { canons = λ k n. func_itself (G.canons k n); owner = λ r o e. e; owns_no_more = λ k r. refl }

any_known : (f : Option Func) → KnownIn (λ i. Unit {0}) (λ r. Unit {0}) f
any_known None = tt
any_known (Some (LoweredFunc (Mine k lifting) options)) = tt
any_known (Some (LoweredFunc (Theirs f) options)) = tt
any_known (Some (ResourceNew r)) = tt
any_known (Some (ResourceDrop r)) = tt
any_known (Some (ResourceRep r)) = tt

any_leads : (t : Target) → LeadsTo (λ i. Unit {0}) t
any_leads (Mine k lifting) = tt
any_leads (Theirs f) = tt

-- what is below does the same in two worlds over one state
pub exact_below : {S A C : Type 0} → (b : ℕ) (Q : World S → A → World C → A → Type 0) (x : Act S A) (y : Act C A) (w : World S) (v : World C) → Exact b (λ s a t a'. Q (record { configs = w.configs; below = s }) a (record { configs = v.configs; below = t }) a') (x w.below) (y v.below) → Exact b Q (below x w) (below y v)
unfolding below
exact_below {S} {A} {C} b Q x y w v h n lt = at (x w.below n) (y v.below n) (h n lt)
  where
    at : (u : Out S A) (t : Out C A) → Equals n (λ s a t a'. Q (record { configs = w.configs; below = s }) a (record { configs = v.configs; below = t }) a') u t → Equals n Q (below_end w u) (below_end v t)
    at (Next o l s a) (Next o' l' t a') k = k
    at (Over o e) (Over o' e') k = k
    at (Spent o) (Spent o') k = k
    at (Next o l s a) (Over o' e) k = absurd k
    at (Next o l s a) (Spent o') k = absurd k
    at (Over o e) (Next o' l' t a') k = absurd k
    at (Over o e) (Spent o') k = absurd k
    at (Spent o) (Next o' l' t a') k = absurd k
    at (Spent o) (Over o' e) k = absurd k

pub exact_itself : {S A : Type 0} → (b : ℕ) (P : S → A → S → A → Type 0) (x : ℕ → Out S A) (fair : (n : ℕ) → Left n (x n)) → ((s : S) (a : A) → P s a s a) → Exact b P x x
exact_itself {S} {A} b P x fair f n lt = at (x n) (fair n)
  where
    at : (u : Out S A) → Left n u → Equals n P u u
    at (Next o l s a) le = (refl, refl, le, f s a)
    at (Over o e) le = (refl, refl)
    at (Spent o) le = refl

module _ {S : Type 0} (G : Group) (p : Ports S) (fair : Fair p) where
  abbrev Same : World S → World S → Type 0
  Same w v = w ≡ v

  below_itself : {X : Type 0} → (b : ℕ) (x : Act S X) → ((s : S) (n : ℕ) → Left n (x s n)) → (w v : World S) → w ≡ v → Exact b (Eq Same) (below x w) (below x v)
  below_itself b x fair' w v e =
      subst (λ z. Exact b (Eq Same) (below x w) (below x z)) e
      (exact_below b (Eq Same) x x w w (exact_itself b _ (x w.below) (fair' w.below) (λ s a. (refl, refl))))

  step_itself : InStep G G p p (λ k. k) Theirs Same Under (λ i. Unit {0}) (λ r. Unit {0})
  step_itself = record {
    here = λ k w v e. ap (λ z. z.configs k) e;
    put = λ k c w v e. ap (λ z. with_config z k c) e;
    knows = λ k n. any_known (G.canons k n);
    types = λ f used. refl;
    nests = λ d due t is. ap (during d) is;
    asks = λ b d from f passed w v used e.
        exact_gives_first b (Eq Same) (Answers_as Same Under) (below (p.ask d from f passed)) (below (p.ask d from f passed)) (λ a. record { passed = a.passed; due = Below a.due }) w v
        (λ w' a v' a' k. (k.0, ap (λ z. z.passed) k.1, ap (λ z. Below z.due) k.1))
        (below_itself b (p.ask d from f passed) (fair.asks d from f passed) w v e);
    leaves = λ b d due t w v is e. subst (λ z. Exact b (Eq Same) (leaves G p (runs G p b) d z w) (below (p.leave d t) v)) (sym is) (below_itself b (p.leave d t) (fair.leaves d t) w v e);
    drops = λ b d r x w v known none e. subst (λ z. Exact b (Eq Same) (drops G p (runs G p b) d r x z w) (below (p.drop d (G.imported r) x) v)) (sym none) (below_itself b (p.drop d (G.imported r) x) (fair.drops d (G.imported r) x) w v e);
  }

  equals_left : {W X V Y : Type 0} → (n : ℕ) (P : W → X → V → Y → Type 0) (x : Out W X) (y : Out V Y) → Equals n P x y → Left n x
  equals_left n P (Next o l w a) (Next o' l' v b) h = h.2
  equals_left n P (Next o l w a) (Over o' e) h = absurd h
  equals_left n P (Next o l w a) (Spent o') h = absurd h
  equals_left n P (Over o e) y h = tt
  equals_left n P (Spent o) y h = tt

  target_itself : (t : Target) → t ≡ target_to (λ k. k) Theirs t
  target_itself (Mine k lifting) = refl
  target_itself (Theirs f) = refl

  stages_itself : (list : List Stage) → stages_to (λ k. k) list ≡ list
  stages_itself [] = refl
  stages_itself (Provides k ty number ∷ rest) = ap (λ z. Provides k ty number ∷ z) (stages_itself rest)
  stages_itself (Makes k make start ∷ rest) = ap (λ z. Makes k make start ∷ z) (stages_itself rest)
  stages_itself (Begins ∷ rest) = ap (λ z. Begins ∷ z) (stages_itself rest)

  asks_left : (o : Option Target) (d : Nesting) (from : Origin) (passed : Passed ℕ) (w : World S) (n : ℕ) → Left n (deep_enough (λ m. answers_if G p (runs G p m) d from o passed) w n)
  unfolding deep_enough traps
  asks_left None d from passed w n = tt
  asks_left (Some target) d from passed w n =
      equals_left n (Answers_as Same (DueTo (λ k. k) Under)) _ (answers G p (runs G p (suc n)) d from target passed w n)
      (subst (λ z. Equals n (Answers_as Same (DueTo (λ k. k) Under)) (answers G p (runs G p (suc n)) d from z passed w n) (answers G p (runs G p (suc n)) d from target passed w n)) (sym (target_itself target))
      (exact_answers G G p p (λ k. k) Theirs Same Under (λ i. Unit {0}) (λ r. Unit {0}) (embeds_itself G) step_itself (suc n) (suc n) (suc n) (omega arith) (exact_runs G G p p (λ k. k) Theirs Same Under (λ i. Unit {0}) (λ r. Unit {0}) (embeds_itself G) step_itself (suc n) (suc n) (suc n) (omega arith) (omega arith)) d from target (any_leads target) passed w w refl n (omega arith)))

  leaves_left : (d : Nesting) (due : Due) (w : World S) (n : ℕ) → Left n ((group G p).leave d due w n)
  unfolding deep_enough gives
  leaves_left d Nothing w n = omega arith
  leaves_left d (Served k lifting results) w n = equals_left n (Eq Same) _ _ (exact_leaves G G p p (λ k. k) Theirs Same Under (λ i. Unit {0}) (λ r. Unit {0}) (embeds_itself G) step_itself (suc n) (suc n) (suc n) (omega arith) (exact_runs G G p p (λ k. k) Theirs Same Under (λ i. Unit {0}) (λ r. Unit {0}) (embeds_itself G) step_itself (suc n) (suc n) (suc n) (omega arith) (omega arith)) d (Served k lifting results) (Served k lifting results) w w refl refl n (omega arith))
  leaves_left d (Below t) w n = equals_left n (Eq Same) _ _ (exact_leaves G G p p (λ k. k) Theirs Same Under (λ i. Unit {0}) (λ r. Unit {0}) (embeds_itself G) step_itself (suc n) (suc n) (suc n) (omega arith) (exact_runs G G p p (λ k. k) Theirs Same Under (λ i. Unit {0}) (λ r. Unit {0}) (embeds_itself G) step_itself (suc n) (suc n) (suc n) (omega arith) (omega arith)) d (Below t) (Below t) w w refl refl n (omega arith))

  drops_left : (o : Option ℕ) (d : Nesting) (x : ℕ) (w : World S) (n : ℕ) → Left n (deep_enough (λ m. drops_given G p (runs G p m) d x o) w n)
  unfolding deep_enough traps
  drops_left None d x w n = tt
  drops_left (Some r) d x w n =
      equals_left n (Eq Same) _ (drops G p (runs G p (suc n)) d r x (G.owner r) w n)
      (exact_drops G G p p (λ k. k) Theirs Same Under (λ i. Unit {0}) (λ r. Unit {0}) (embeds_itself G) step_itself (suc n) (suc n) (suc n) (omega arith) (exact_runs G G p p (λ k. k) Theirs Same Under (λ i. Unit {0}) (λ r. Unit {0}) (embeds_itself G) step_itself (suc n) (suc n) (suc n) (omega arith) (omega arith)) d r x (G.owner r) refl tt w w refl n (omega arith))

  pub group_fair : Fair (group G p)
  group_fair = record {
    asks = λ d from f passed w n. asks_left (G.exports f.interface f.function) d from passed w n;
    leaves = leaves_left;
    drops = λ d resource x w n. drops_left (G.given resource) d x w n;
  }

  pub made_left : (d : Nesting) (w : World S) (n : ℕ) → Left n (is_made G p d w n)
  unfolding deep_enough
  made_left d w n =
      equals_left n (Eq Same) _ (does_all G p (runs G p (suc n)) d G.stages w n)
      (subst (λ z. Equals n (Eq Same) (does_all G p (runs G p (suc n)) d z w n) (does_all G p (runs G p (suc n)) d G.stages w n)) (stages_itself G.stages)
      (exact_all G G p p (λ k. k) Theirs Same Under (λ i. Unit {0}) (λ r. Unit {0}) (embeds_itself G) step_itself (suc n) (suc n) (suc n) (omega arith) (omega arith) d G.stages w w refl n (omega arith)))

pub stack_fair : {S : Type 0} → (groups : List Group) (p : Ports S) → Fair p → Fair (stack groups p)
stack_fair [] p fair = fair
stack_fair (G ∷ Gs) p fair = group_fair G (stack Gs p) (stack_fair Gs p fair)

pub are_made_left : {S : Type 0} → (d : Nesting) (groups : List Group) (p : Ports S) → Fair p → (s : State groups S) (n : ℕ) → Left n (are_made d groups p s n)
unfolding gives
are_made_left d [] p fair s n = omega arith
are_made_left d (G ∷ Gs) p fair s n =
    left_then (below (are_made d Gs p)) (λ x. is_made G (stack Gs p) d) s n (left_below (are_made d Gs p) s n (are_made_left d Gs p fair s.below n))
    (λ a w l. made_left G (stack Gs p) (stack_fair Gs p fair) d w l)
