-- A group whose making begins with a step does what it does without it, once it is made.
use Rattle.std.proofs.Common.{◌≡◌, ℕ, zero, suc, List, [], ◌∷◌, Option, Some, None, refl, sym, ◌∙◌, ap, subst, arith}
use Rattle.std.specs.Option.{option_map}
use Rattle.std.proofs.Math.Path.{ap₂}
use Rattle.wit_types.specs.Plain.{End as NoTypes}
use Rattle.host_port.specs.declared.call.Resource.{Resource}
use Rattle.host_port.specs.Calls.{Returned}
use Rattle.comp_worlds.specs.Acts.{Out, Next, Over, Spent, seen_before, Act, ◌>>◌, gives, takes_step, shows}
use Rattle.comp_worlds.specs.Passing.{Passed, out_of_tuple}
use Rattle.comp_worlds.specs.Groups.{Nesting, Import, Target, Mine, Theirs, Func, LoweredFunc, ResourceNew, ResourceDrop, ResourceRep, Stage, Provides, Makes, Begins, Group, World, Due, Nothing, Served, Below, Answer, Origin, Outside, Ports}
use Rattle.comp_worlds.specs.Calls.{with_config, below, answers, during, leaves, drops, runs, deep_enough, answers_if, drops_given, group, does_all, is_made}
use Rattle.comp_worlds.specs.Observed.{Call, without_handles, makes_calls}
use Rattle.comp_worlds.specs.Parts.{target_to, func_to, stages_to, Embeds}
use Rattle.comp_worlds.proofs.Exact.{Equals, Exact, exact_gives_first}
use Rattle.comp_worlds.proofs.Embedding.{Eq, DueTo, Answers_as, LeadsTo, KnownIn, InStep, exact_runs, exact_answers, exact_leaves, exact_drops, exact_all}
use Rattle.comp_worlds.proofs.Fair.{Left, Fair, Under, exact_below, exact_itself}
use Rattle.comp_joins.specs.Laws.{in_a_step}

-- ---- what comes out alike is the same

equals_same : {W A : Type 0} → (n : ℕ) (P : W → A → W → A → Type 0) → ((w : W) (a : A) (v : W) (b : A) → P w a v b → (w ≡ v) × (a ≡ b)) → (x y : Out W A) → Equals n P x y → x ≡ y
equals_same n P f (Next o l w a) (Next o' l' v b) h = let s = f w a v b h.3 in ap₂ (λ o l. Next o l w a) h.0 h.1 ∙ ap₂ (Next o' l') s.0 s.1
equals_same n P f (Over o e) (Over o' e') h = ap₂ Over h.0 h.1
equals_same n P f (Spent o) (Spent o') h = ap Spent h
equals_same n P f (Next o l w a) (Over o' e) h = absurd h
equals_same n P f (Next o l w a) (Spent o') h = absurd h
equals_same n P f (Over o e) (Next o' l' v b) h = absurd h
equals_same n P f (Over o e) (Spent o') h = absurd h
equals_same n P f (Spent o) (Next o' l' v b) h = absurd h
equals_same n P f (Spent o) (Over o' e) h = absurd h

abbrev itself : ℕ → ℕ
itself k = k

due_same : (d t : Due) → DueTo itself Under d t → d ≡ t
due_same d Nothing is = absurd is
due_same d (Served k lifting results) is = is
due_same d (Below t) is = is

func_itself : (f : Option Func) → f ≡ option_map (func_to itself Theirs) f
func_itself None = refl
func_itself (Some (LoweredFunc (Mine k lifting) options)) = refl
func_itself (Some (LoweredFunc (Theirs f) options)) = refl
func_itself (Some (ResourceNew r)) = refl
func_itself (Some (ResourceDrop r)) = refl
func_itself (Some (ResourceRep r)) = refl

abbrev Any_import : Import → Type 0
Any_import f = Unit {0}

abbrev Any_resource : ℕ → Type 0
Any_resource r = Unit {0}

any_known : (f : Option Func) → KnownIn Any_import Any_resource f
any_known None = tt
any_known (Some (LoweredFunc (Mine k lifting) options)) = tt
any_known (Some (LoweredFunc (Theirs f) options)) = tt
any_known (Some (ResourceNew r)) = tt
any_known (Some (ResourceDrop r)) = tt
any_known (Some (ResourceRep r)) = tt

any_leads : (t : Target) → LeadsTo Any_import t
any_leads (Mine k lifting) = tt
any_leads (Theirs f) = tt

target_itself : (t : Target) → target_to itself Theirs t ≡ t
target_itself (Mine k lifting) = refl
target_itself (Theirs f) = refl

stages_itself : (list : List Stage) → stages_to itself list ≡ list
stages_itself [] = refl
stages_itself (Provides k ty number ∷ rest) = ap (λ z. Provides k ty number ∷ z) (stages_itself rest)
stages_itself (Makes k make start ∷ rest) = ap (λ z. Makes k make start ∷ z) (stages_itself rest)
stages_itself (Begins ∷ rest) = ap (λ z. Begins ∷ z) (stages_itself rest)

module _ {S : Type 0} (G : Group) (p : Ports S) (fair : Fair p) where
  abbrev H : Group
  H = in_a_step G

  abbrev Same : World S → World S → Type 0
  Same w v = w ≡ v

  embeds : Embeds G H itself Theirs
  embeds = record { canons = λ k n. func_itself (G.canons k n); owner = λ r o e. e; owns_no_more = λ k r. refl }

  same_below : {X : Type 0} → (b : ℕ) (x : Act S X) → ((s : S) (n : ℕ) → Left n (x s n)) → (w v : World S) → w ≡ v → Exact b (Eq Same) (below x w) (below x v)
  same_below b x fair' w v e =
      subst (λ z. Exact b (Eq Same) (below x w) (below x z)) e
      (exact_below b (Eq Same) x x w w (exact_itself b _ (x w.below) (fair' w.below) (λ s a. (refl, refl))))

  step : InStep G H p p itself Theirs Same Under Any_import Any_resource
  step = record {
    here = λ k w v e. ap (λ z. z.configs k) e;
    put = λ k c w v e. ap (λ z. with_config z k c) e;
    knows = λ k n. any_known (G.canons k n);
    types = λ f used. refl;
    nests = λ d due t is. ap (during d) is;
    asks = λ b d from f passed w v used e.
        exact_gives_first b (Eq Same) (Answers_as Same Under) (below (p.ask d from f passed)) (below (p.ask d from f passed)) (λ a. record { passed = a.passed; due = Below a.due }) w v
        (λ w' a v' a' k. (k.0, ap (λ z. z.passed) k.1, ap (λ z. Below z.due) k.1))
        (same_below b (p.ask d from f passed) (fair.asks d from f passed) w v e);
    leaves = λ b d due t w v is e. subst (λ z. Exact b (Eq Same) (leaves H p (runs H p b) d z w) (below (p.leave d t) v)) (sym is) (same_below b (p.leave d t) (fair.leaves d t) w v e);
    drops = λ b d r x w v known none e. subst (λ z. Exact b (Eq Same) (drops H p (runs H p b) d r x z w) (below (p.drop d (G.imported r) x) v)) (sym none) (same_below b (p.drop d (G.imported r) x) (fair.drops d (G.imported r) x) w v e);
  }

  answer_same : (w : World S) (a : Answer) (v : World S) (b : Answer) → Answers_as Same (DueTo itself Under) w a v b → (w ≡ v) × (a ≡ b)
  answer_same w a v b h = (h.0, ap₂ (λ x y. record { passed = x; due = y }) h.1 (due_same a.due b.due h.2))

  eq_same : {X : Type 0} → (w : World S) (a : X) (v : World S) (b : X) → Eq Same w a v b → (w ≡ v) × (a ≡ b)
  eq_same w a v b h = h

  ask_same : (d : Nesting) (from : Origin) (f : Import) (passed : Passed ℕ) (w : World S) (n : ℕ) → (group H p).ask d from f passed w n ≡ (group G p).ask d from f passed w n
  unfolding deep_enough
  ask_same d from f passed w n = at (G.exports f.interface f.function)
    where
      at : (o : Option Target) → answers_if H p (runs H p (suc n)) d from o passed w n ≡ answers_if G p (runs G p (suc n)) d from o passed w n
      at None = refl
      at (Some target) =
          ap (λ z. answers H p (runs H p (suc n)) d from z passed w n) (sym (target_itself target))
          ∙ equals_same n (Answers_as Same (DueTo itself Under)) answer_same _ _
          (exact_answers G H p p itself Theirs Same Under Any_import Any_resource embeds step (suc n) (suc n) (suc n) (omega arith)
          (exact_runs G H p p itself Theirs Same Under Any_import Any_resource embeds step (suc n) (suc n) (suc n) (omega arith) (omega arith)) d from target (any_leads target) passed w w refl n (omega arith))

  left_same : (n : ℕ) (d : Nesting) (due : Due) → DueTo itself Under due due → (w : World S) → leaves H p (runs H p (suc n)) d due w n ≡ leaves G p (runs G p (suc n)) d due w n
  left_same n d due is w =
      equals_same n (Eq Same) eq_same _ _
      (exact_leaves G H p p itself Theirs Same Under Any_import Any_resource embeds step (suc n) (suc n) (suc n) (omega arith)
      (exact_runs G H p p itself Theirs Same Under Any_import Any_resource embeds step (suc n) (suc n) (suc n) (omega arith) (omega arith)) d due due w w is refl n (omega arith))

  leave_same : (d : Nesting) (due : Due) (w : World S) (n : ℕ) → (group H p).leave d due w n ≡ (group G p).leave d due w n
  unfolding deep_enough
  leave_same d Nothing w n = refl
  leave_same d (Served k lifting results) w n = left_same n d (Served k lifting results) refl w
  leave_same d (Below t) w n = left_same n d (Below t) refl w

  drop_same : (d : Nesting) (resource : Resource) (x : ℕ) (w : World S) (n : ℕ) → (group H p).drop d resource x w n ≡ (group G p).drop d resource x w n
  unfolding deep_enough
  drop_same d resource x w n = at (G.given resource)
    where
      at : (o : Option ℕ) → drops_given H p (runs H p (suc n)) d x o w n ≡ drops_given G p (runs G p (suc n)) d x o w n
      at None = refl
      at (Some r) =
          equals_same n (Eq Same) eq_same _ _
          (exact_drops G H p p itself Theirs Same Under Any_import Any_resource embeds step (suc n) (suc n) (suc n) (omega arith)
          (exact_runs G H p p itself Theirs Same Under Any_import Any_resource embeds step (suc n) (suc n) (suc n) (omega arith) (omega arith)) d r x (G.owner r) refl tt w w refl n (omega arith))

  pub ports_same : group H p ≡ group G p
  ports_same = λ i. record {
    ask = λ d from f passed w n. ask_same d from f passed w n i;
    leave = λ d due w n. leave_same d due w n i;
    drop = λ d resource x w n. drop_same d resource x w n i;
  }

  made_same : (d : Nesting) (w : World S) (n : ℕ) → is_made H p d w n ≡ (takes_step >> λ _. is_made G p d) w n
  unfolding deep_enough ◌>>◌ takes_step
  made_same d w zero = refl
  made_same d w (suc n) =
      ap (seen_before [])
      (ap (λ l. does_all H p (runs H p (suc (suc n))) d l w n) (sym (stages_itself G.stages))
      ∙ equals_same n (Eq Same) eq_same _ _
      (exact_all G H p p itself Theirs Same Under Any_import Any_resource embeds step (suc n) (suc (suc n)) (suc n) (omega arith) (omega arith) d G.stages w w refl n (omega arith)))

  pub made_in_step : (d : Nesting) → is_made H p d ≡ (takes_step >> λ _. is_made G p d)
  made_in_step d = λ i w n. made_same d w n i

-- ---- calls depend on what the group answers, leaves and drops

abbrev called : Call → Import
called call = record { interface = call.interface; function = call.function; ty = record { params = NoTypes; answer = None } }

abbrev calls_of : {S : Type 0} → Ports S → Nesting → List Call → Act S (Unit {0})
calls_of P d [] = gives tt
calls_of P d (call ∷ rest) =
    P.ask d Outside (called call) (without_handles call) >> λ answer.
    P.leave d answer.due >> λ _.
    shows (Returned (out_of_tuple answer.passed.value) ∷ []) >> λ _.
    calls_of P d rest

calls_are : {S : Type 0} → (G : Group) (p : Ports S) (d : Nesting) (calls : List Call) → makes_calls G p d calls ≡ calls_of (group G p) d calls
calls_are G p d [] = refl
calls_are G p d (call ∷ rest) =
    ap (λ z. (group G p).ask d Outside (called call) (without_handles call) >> λ answer. (group G p).leave d answer.due >> λ _. shows (Returned (out_of_tuple answer.passed.value) ∷ []) >> λ _. z) (calls_are G p d rest)

pub calls_same : {S : Type 0} → (G H : Group) (p q : Ports S) (d : Nesting) (calls : List Call) → group H q ≡ group G p → makes_calls H q d calls ≡ makes_calls G p d calls
calls_same G H p q d calls same = calls_are H q d calls ∙ ap (λ P. calls_of P d calls) same ∙ sym (calls_are G p d calls)
