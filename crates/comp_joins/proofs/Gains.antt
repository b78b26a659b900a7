-- What is made in a step more is seen to do the same.
use Rattle.std.proofs.Common.{◌≡◌, ℕ, zero, suc, ◌+◌, List, ◌∷◌, refl, sym, ◌∙◌, ap, subst, arith}
use Rattle.std.proofs.Math.Path.{ap₂}
use Rattle.host_port.specs.Hosts.{HostStep}
use Rattle.comp_worlds.specs.Acts.{Out, Next, Over, Spent, IsPrefixOf, seen_of, seen_before, then_do, Act, ◌>>◌, takes_step, Extends, Grows}
use Rattle.comp_worlds.specs.Groups.{Nesting, Group, World, Ports}
use Rattle.comp_worlds.specs.Calls.{below_end, below, group, is_made}
use Rattle.comp_worlds.specs.Hosts.{hosted}
use Rattle.comp_worlds.specs.Laws.{PortsGrow}
use Rattle.comp_worlds.specs.Observed.{State, stack, first_state, are_made, Call, makes_calls, runs_calls}
use Rattle.comp_worlds.proofs.Growing.{prefix_nil, prefix_trans, extends_before, seen_then}
use Rattle.comp_worlds.proofs.GroupGrowing.{group_grows, made_longer}
use Rattle.comp_worlds.proofs.ObservedGrowing.{host_grows, stack_grows, are_made_longer, calls_longer}
use Rattle.comp_worlds.proofs.Whole.{nothing_before}
use Rattle.comp_worlds.proofs.Fair.{Fair, host_fair, group_fair, stack_fair}
use Rattle.comp_joins.specs.Laws.{in_a_step, TwoStepsMore}
use Rattle.comp_joins.proofs.InStep.{ports_same, made_in_step, calls_same}

-- with k more steps the second does what the first does, and has k' more left
record Gains {W A : Type 0} (k k' : ℕ) (x y : Act W A) : Type 0 where
  each : (w : W) (n : ℕ) → Extends k' (x w n) (y w (k + n))

then_gains : {W A B : Type 0} → (k l m : ℕ) (x y : Act W A) (go go' : A → Act W B) → Gains k l x y → ((a : A) → Gains l m (go a) (go' a)) → Gains k m (x >> go) (y >> go')
unfolding ◌>>◌
then_gains {W} {A} k l m x y go go' first next = record { each = λ w n. at (x w n) (y w (k + n)) (first.each w n) }
  where
    at : (u v : Out W A) → Extends l u v → Extends m (then_do u go) (then_do v go')
    at (Next o left w a) v e =
        subst (λ z. Extends m (seen_before o (go a w left)) (then_do z go')) (sym e)
        (extends_before o m (go a w left) (go' a w (l + left)) ((next a).each w left))
    at (Over o e') v e = ap (λ z. then_do z go') e
    at (Spent o) v e = prefix_trans o _ _ e (seen_then v go')

below_gains : {S A : Type 0} → (k l : ℕ) (x y : Act S A) → Gains k l x y → Gains k l (below x) (below y)
unfolding below
below_gains {S} {A} k l x y h = record { each = λ w n. at w (x w.below n) (y w.below (k + n)) (h.each w.below n) }
  where
    seen_below : (w : World S) (v : Out S A) → seen_of (below_end w v) ≡ seen_of v
    seen_below w (Next o left s a) = refl
    seen_below w (Over o e) = refl
    seen_below w (Spent o) = refl

    at : (w : World S) (u v : Out S A) → Extends l u v → Extends l (below_end w u) (below_end w v)
    at w (Next o left s a) v e = ap (below_end w) e
    at w (Over o e') v e = ap (below_end w) e
    at w (Spent o) v e = subst (IsPrefixOf o) (sym (seen_below w v)) e

grown : {W A : Type 0} → (k : ℕ) (x : Act W A) → Grows x → Gains k k x x
grown k x grows = record { each = λ w n. grows w n k }

-- the second takes a step first
stepped : {W A : Type 0} → (k : ℕ) (x : Act W A) → Grows x → Gains (suc k) k x (takes_step >> λ _. x)
unfolding ◌>>◌ takes_step
stepped {W} {A} k x grows = record { each = at }
  where
    at : (w : W) (n : ℕ) → Extends k (x w n) ((takes_step >> λ _. x) w (suc k + n))
    at w n =
        subst (λ i. Extends k (x w n) ((takes_step >> λ _. x) w i)) (let q : suc (k + n) ≡ suc k + n = omega arith in q)
        (subst (Extends k (x w n)) (sym (nothing_before (x w (k + n)))) (grows w n k))

-- the first takes a step first
behind_step : {W A : Type 0} → (k : ℕ) (x : Act W A) → Grows x → Gains k (suc k) (takes_step >> λ _. x) x
unfolding ◌>>◌ takes_step
behind_step {W} {A} k x grows = record { each = at }
  where
    at : (w : W) (n : ℕ) → Extends (suc k) ((takes_step >> λ _. x) w n) (x w (k + n))
    at w zero = prefix_nil _
    at w (suc n) =
        subst (λ z. Extends (suc k) z (x w (k + suc n))) (sym (nothing_before (x w n)))
        (subst (λ i. Extends (suc k) (x w n) (x w i)) (let q : suc k + n ≡ k + suc n = omega arith in q) (grows w n (suc k)))

module _ {S : Type 0} (A B : Group) (groups : List Group) (h : HostStep S) (s : S) (d : Nesting) (calls : List Call) where
  abbrev p : Ports (State groups S)
  p = stack groups (hosted h)

  abbrev q : Ports (World (State groups S))
  q = group A p

  fair : Fair p
  fair = stack_fair groups (hosted h) (host_fair h)

  grow : PortsGrow p
  grow = stack_grows (hosted h) (host_grows h) groups

  abbrev W : Type 0
  W = World (World (State groups S))

  abbrev made_first : Act (State groups S) (Unit {0})
  made_first = are_made d groups (hosted h)

  abbrev whole : Act (World (State groups S)) (Unit {0}) → Act W (Unit {0}) → Act W (Unit {0}) → Act W (Unit {0})
  whole a b c = (below (below made_first >> λ _. a) >> λ _. b) >> λ _. c

  abbrev quick : Act W (Unit {0})
  quick = whole (is_made A p d) (is_made B q d) (makes_calls B q d calls)

  abbrev slow : Act W (Unit {0})
  slow = whole (takes_step >> λ _. is_made A p d) (takes_step >> λ _. is_made B q d) (makes_calls B q d calls)

  same_above : group (in_a_step B) (group (in_a_step A) p) ≡ group B q
  same_above = ap (group (in_a_step B)) (ports_same A p fair) ∙ ports_same B q (group_fair A p fair)

  slow_is : whole (is_made (in_a_step A) p d) (is_made (in_a_step B) (group (in_a_step A) p) d) (makes_calls (in_a_step B) (group (in_a_step A) p) d calls) ≡ slow
  slow_is =
      ap (λ a. whole a (is_made (in_a_step B) (group (in_a_step A) p) d) (makes_calls (in_a_step B) (group (in_a_step A) p) d calls)) (made_in_step A p fair d)
      ∙ ap₂ (whole (takes_step >> λ _. is_made A p d))
      (ap (λ P. is_made (in_a_step B) P d) (ports_same A p fair) ∙ made_in_step B q (group_fair A p fair) d)
      (calls_same B (in_a_step B) q (group (in_a_step A) p) d calls same_above)

  first_grows : Grows made_first
  first_grows = (are_made_longer (hosted h) (host_grows h) d groups).each

  a_grows : Grows (is_made A p d)
  a_grows = (made_longer A p grow d).each

  b_grows : Grows (is_made B q d)
  b_grows = (made_longer B q (group_grows A p grow) d).each

  calls_grow : Grows (makes_calls B q d calls)
  calls_grow = (calls_longer q (group_grows A p grow) B d calls).each

  quick_slow : Gains 2 0 quick slow
  quick_slow =
      then_gains 2 0 0 _ _ _ _
      (then_gains 2 1 0 _ _ _ _
      (below_gains 2 1 _ _ (then_gains 2 2 1 _ _ _ _ (below_gains 2 2 _ _ (grown 2 made_first first_grows)) (λ _. stepped 1 (is_made A p d) a_grows)))
      (λ _. stepped 0 (is_made B q d) b_grows))
      (λ _. grown 0 (makes_calls B q d calls) calls_grow)

  slow_quick : Gains 0 2 slow quick
  slow_quick =
      then_gains 0 2 2 _ _ _ _
      (then_gains 0 1 2 _ _ _ _
      (below_gains 0 1 _ _ (then_gains 0 0 1 _ _ _ _ (below_gains 0 0 _ _ (grown 0 made_first first_grows)) (λ _. behind_step 0 (is_made A p d) a_grows)))
      (λ _. behind_step 1 (is_made B q d) b_grows))
      (λ _. grown 2 (makes_calls B q d calls) calls_grow)

  pub two_steps_more : TwoStepsMore A B groups h s d calls
  unfolding runs_calls
  two_steps_more = record {
    first = λ n. subst (λ x. Extends 0 (quick (first_state (B ∷ A ∷ groups) s) n) (x (first_state (B ∷ A ∷ groups) s) (2 + n))) (sym slow_is) (quick_slow.each (first_state (B ∷ A ∷ groups) s) n);
    second = λ n. subst (λ x. Extends 2 (x (first_state (B ∷ A ∷ groups) s) n) (quick (first_state (B ∷ A ∷ groups) s) n)) (sym slow_is)
        (subst (λ k. Extends 2 (slow (first_state (B ∷ A ∷ groups) s) n) (quick (first_state (B ∷ A ∷ groups) s) k)) (let q : 0 + n ≡ n = omega arith in q) (slow_quick.each (first_state (B ∷ A ∷ groups) s) n));
  }
