-- What is told of a run is what is observed of it.
use Rattle.std.proofs.Common.{◌≡◌, ◌∙◌, refl, sym, ap, ℕ, List, [], ◌∷◌, ◌++◌, map, append_assoc, Option}
use Rattle.wit_types.specs.PlainValue.{PlainValue}
use Rattle.host_port.specs.Calls.{PlainObservation, Returned, Spent as IsSpent}
use Rattle.host_port.specs.Hosts.{HostStep}
use Rattle.comp_worlds.specs.Acts.{end_item, Out, Next, Over, Spent, observed_of, seen_before, then_do, Act, ◌>>◌, gives, shows}
use Rattle.comp_worlds.specs.Passing.{out_of_tuple}
use Rattle.comp_worlds.specs.Groups.{Group, World}
use Rattle.comp_worlds.specs.Calls.{does_all, is_made}
use Rattle.comp_worlds.specs.Hosts.{hosted}
use Rattle.comp_worlds.specs.Observed.{first_state, Call, asks_export, leaves_export, makes_calls, obs_deep}
use Rattle.comp_worlds.proofs.Fair.{host_fair}
use Rattle.comp_frames.specs.Running.{running}
use Rattle.comp_frames.proofs.Unfolding.{meets_without_fuel, runs_serve}
use Rattle.virt_engine.specs.Told.{Item, Told, TypedCall, untyped, told_after, at_most, result_item, nothing_more, calls_export, told_calls, told}

-- ---- one after the other

before_before : {W A : Type 0} → (o o' : List PlainObservation) (x : Out W A) → seen_before (o ++ o') x ≡ seen_before o (seen_before o' x)
before_before o o' (Next o'' l w a) = ap (λ z. Next z l w a) (append_assoc o o' o'')
before_before o o' (Over o'' e) = ap (λ z. Over z e) (append_assoc o o' o'')
before_before o o' (Spent o'') = ap Spent (append_assoc o o' o'')

before_then : {W A B : Type 0} → (o : List PlainObservation) (x : Out W A) (go : A → W → ℕ → Out W B) → then_do (seen_before o x) go ≡ seen_before o (then_do x go)
before_then o (Next o' l w a) go = before_before o o' (go a w l)
before_then o (Over o' e) go = refl
before_then o (Spent o') go = refl

-- what comes after two acts comes after their answer
joined : {W A B C D : Type 0} → (x : Act W A) (y : A → Act W B) (f : A → C) (g : C → Act W D) (w : W) (n : ℕ) → (x >> λ a. y a >> λ _. g (f a)) w n ≡ then_do ((x >> λ a. y a >> λ _. gives (f a)) w n) g
unfolding ◌>>◌ gives
joined {W} {A} {B} {C} {D} x y f g w n = first (x w n)
  where
    second : (a : A) (u : Out W B) → then_do u (λ _. g (f a)) ≡ then_do (then_do u (λ _ w' l. Next [] l w' (f a))) g
    second a (Next o l w' b) = sym (before_then o (Next [] l w' (f a)) g ∙ ap (seen_before o) (nothing (g (f a) w' l)))
      where
        nothing : (z : Out W D) → seen_before [] z ≡ z
        nothing (Next o' l' w'' d) = refl
        nothing (Over o' e) = refl
        nothing (Spent o') = refl
    second a (Over o e) = refl
    second a (Spent o) = refl

    first : (u : Out W A) → then_do u (λ a w' l. then_do (y a w' l) (λ _. g (f a))) ≡ then_do (then_do u (λ a w' l. then_do (y a w' l) (λ _ w'' l'. Next [] l' w'' (f a)))) g
    first (Next o l w' a) = ap (seen_before o) (second a (y a w' l)) ∙ sym (before_then o (then_do (y a w' l) (λ _ w'' l'. Next [] l' w'' (f a))) g)
    first (Over o e) = refl
    first (Spent o) = refl

-- ---- what is observed after what was seen

observed_before : {W A : Type 0} → (o : List PlainObservation) (x : Out W A) → observed_of (seen_before o x) ≡ o ++ observed_of x
observed_before o (Next o' l w a) = refl
observed_before o (Over o' e) = append_assoc o o' (end_item e ∷ [])
observed_before o (Spent o') = append_assoc o o' (IsSpent ∷ [])

abbrev pub seen_in : List Item → List PlainObservation
seen_in items = map (λ i. i.seen) items

pub seen_untyped : (o : List PlainObservation) → seen_in (untyped o) ≡ o
seen_untyped [] = refl
seen_untyped (x ∷ o) = ap (λ z. x ∷ z) (seen_untyped o)

pub seen_more : (xs ys : List Item) → seen_in (xs ++ ys) ≡ seen_in xs ++ seen_in ys
seen_more [] ys = refl
seen_more (x ∷ xs) ys = ap (λ z. x.seen ∷ z) (seen_more xs ys)

-- what is told after an act is observed after it
module _ {S A : Type 0} (of : A → List Item) (go : A → World S → ℕ → Out (World S) (Unit {0})) (next : World S → ℕ → Told) (same : (a : A) (w : World S) (l : ℕ) → seen_in (of a) ++ seen_in (next w l).items ≡ observed_of (go a w l)) where
  after : (x : Out (World S) A) → seen_in (told_after of x next).items ≡ observed_of (then_do x go)
  after (Next o l w a) =
      seen_more (untyped o ++ of a) (next w l).items
      ∙ ap (λ z. z ++ seen_in (next w l).items) (seen_more (untyped o) (of a) ∙ ap (λ z. z ++ seen_in (of a)) (seen_untyped o))
      ∙ append_assoc o (seen_in (of a)) (seen_in (next w l).items)
      ∙ ap (λ z. o ++ z) (same a w l)
      ∙ sym (observed_before o (go a w l))
  after (Over o e) = seen_untyped (o ++ end_item e ∷ [])
  after (Spent o) = seen_untyped (o ++ IsSpent ∷ [])

module _ {S : Type 0} (G : Group) (h : HostStep S) where
  abbrev calls_in : List TypedCall → List Call
  calls_in calls = map (λ c. c.call) calls

  -- a result is shown, and then come the other calls
  abbrev goes : List TypedCall → Option PlainValue → Act (World S) (Unit {0})
  goes calls v = shows (Returned v ∷ []) >> λ _. makes_calls G (hosted h) at_most (calls_in calls)

  calls_observed : (calls : List TypedCall) (w : World S) (n : ℕ) → seen_in (told_calls G h calls w n).items ≡ observed_of (makes_calls G (hosted h) at_most (calls_in calls) w n)
  unfolding ◌>>◌ gives shows
  calls_observed [] w n = refl
  calls_observed (c ∷ calls) w n =
      after (result_item c.ty) (λ v w' l. goes calls v w' l) (λ w' l. told_calls G h calls w' l)
      (λ v w' l. ap (λ z. Returned v ∷ z) (calls_observed calls w' l) ∙ sym (observed_before (Returned v ∷ []) (makes_calls G (hosted h) at_most (calls_in calls) w' l)))
      (calls_export G h c.call w n)
      ∙ ap observed_of (sym (joined (asks_export G (hosted h) at_most c.call) (λ answer. leaves_export G (hosted h) at_most answer.due) (λ answer. out_of_tuple answer.passed.value) (λ v. goes calls v) w n))

  pub told_observed : (s : S) (calls : List TypedCall) (n : ℕ) → seen_in (told G h calls s n).items ≡ obs_deep G [] h s (calls_in calls) n
  unfolding ◌>>◌
  told_observed s calls n =
      let m = meets_without_fuel G (hosted h) (host_fair h) in
      after nothing_more (λ u w l. makes_calls G (hosted h) at_most (calls_in calls) w l) (λ w l. told_calls G h calls w l) (λ u w l. calls_observed calls w l)
      (is_made G (hosted h) at_most (first_state (G ∷ []) s) n)
      ∙ ap (λ (x : Act (World S) (Unit {0})). observed_of (then_do (x (first_state (G ∷ []) s) n) (λ _. makes_calls G (hosted h) at_most (calls_in calls)))) (m.making at_most)
      ∙ ap (λ (x : Act (World S) (Unit {0})). observed_of (then_do (does_all G (hosted h) (running G (hosted h)) at_most G.stages (first_state (G ∷ []) s) n) (λ _. x))) (m.serving at_most (calls_in calls))
      ∙ ap observed_of (sym (runs_serve h at_most G s (calls_in calls) n))
