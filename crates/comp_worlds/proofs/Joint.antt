-- The pieces of a group's run, in two worlds.
use Rattle.std.proofs.Common.{◌≡◌, ◌≢◌, ℕ, suc, ◌+◌, ◌-◌, ◌==◌, List, [], Option, Some, None, Bool, true, false, refl, sym, ◌∙◌, ap, subst, subst₂, arith}
use Rattle.std.specs.Option.{option_map}
use Rattle.std.proofs.lemmas.Bool.{eqb-true, eqb-false, eq-eqb}
use Rattle.core_store.specs.State.{State}
use Rattle.core_store.specs.declared.value.CoreValue.{CoreValue}
use Rattle.core_store.specs.Config.{Reply, Outcome, Done, Trapped as CoreTrapped, Asks, Spent as CoreSpent, TooDeep as CoreTooDeep}
use Rattle.core_store.specs.Eval.{eval}
use Rattle.core_store.specs.Laws.{Further}
use Rattle.core_store.proofs.Further.{further}
use Rattle.comp_worlds.specs.Acts.{Out, Next, Over, Spent, Act, ◌>>◌, Extends}
use Rattle.comp_worlds.specs.Groups.{Config, World}
use Rattle.comp_worlds.specs.Locals.{Local, with_store}
use Rattle.comp_worlds.specs.Calls.{pick, with_config, on_end, on, below_end, below, Pause, Finished, Question, core_end, core, store_of, deep_enough}
use Rattle.comp_worlds.specs.Related.{Both, one_of, two_of}
use Rattle.comp_worlds.proofs.Growing.{prefix_nil}
use Rattle.comp_worlds.proofs.Natural.{config_over, local_over}
use Rattle.comp_worlds.proofs.Similar.{Matches, matches_extends, Flip, Similar, similar_then}

module _ {A : Type 0} (J : ℕ → A) (k : ℕ) (c : A) where
  -- what holds of the new item, and of the others, holds of all
  pub set_all : (Q : ℕ → A → Type 0) → Q k c → ((m : ℕ) → m ≢ k → Q m (J m)) → (m : ℕ) → Q m (pick (m == k) c (J m))
  set_all Q here there m = go (m == k) refl
    where
      go : (b : Bool) → (m == k) ≡ b → Q m (pick b c (J m))
      go true e = subst (λ i. Q i c) (sym (eqb-true m k e)) here
      go false e = there m (λ same. eqb-false m k e same)

  pub set_here : pick (k == k) c (J k) ≡ c
  set_here = ap (λ b. pick b c (J k)) (eq-eqb k k refl)

  pub set_there : (m : ℕ) → m ≢ k → pick (m == k) c (J m) ≡ J m
  set_there m d = go (m == k) refl
    where
      go : (b : Bool) → (m == k) ≡ b → pick b c (J m) ≡ J m
      go true e = absurd (d (eqb-true m k e))
      go false e = refl

module _ {S T A B C : Type 0} (D : ℕ) (Q : World S → A → World T → B → Type 0) where
  on_ends : (k : ℕ) (f : C → A) (g : C → B) (w : World S) (v : World T) (o : Option (Local Both C)) → ((l : Local Both C) → o ≡ Some l → Q (with_config w k (config_over one_of l.config)) (f l.answer) (with_config v k (config_over two_of l.config)) (g l.answer)) →
      Similar D Q (λ d n. on_end w k n (option_map (local_over one_of f) o)) (λ d n. on_end v k n (option_map (local_over two_of g) o))
  on_ends k f g w v None each = record { first = λ n. (n, (refl, refl)); second = λ n. (n, (refl, refl)); grows = λ D' n i le. refl; grows' = λ D' n i le. refl }
  on_ends k f g w v (Some l) each = record { first = λ n. (n, (refl, each l refl)); second = λ n. (n, (refl, each l refl)); grows = λ D' n i le. refl; grows' = λ D' n i le. refl }

  -- an operation on one instance
  pub similar_on : (k : ℕ) (f : C → A) (g : C → B) (one : Config ℕ → Option (Local ℕ A)) (two : Config ℕ → Option (Local ℕ B)) (w : World S) (v : World T) (o : Option (Local Both C)) →
      one (w.configs k) ≡ option_map (local_over one_of f) o → two (v.configs k) ≡ option_map (local_over two_of g) o →
      ((l : Local Both C) → o ≡ Some l → Q (with_config w k (config_over one_of l.config)) (f l.answer) (with_config v k (config_over two_of l.config)) (g l.answer)) →
      Similar D Q (λ d. on k one w) (λ d. on k two v)
  unfolding on
  similar_on k f g one two w v o e e' each =
      subst₂ (λ x y. Similar D Q (λ d n. on_end w k n x) (λ d n. on_end v k n y)) (sym e) (sym e') (on_ends k f g w v o each)

-- an operation on one instance, and then
abbrev Done_on : {S T A B C : Type 0} → ℕ → (C → A) → (C → B) → World S → World T → Option (Local Both C) → World S → A → World T → B → Type 0
Done_on {C = C} k f g w v o w' a v' b =
    (l : Local Both C) × (o ≡ Some l) × (with_config w k (config_over one_of l.config) ≡ w') × (with_config v k (config_over two_of l.config) ≡ v') × (f l.answer ≡ a) × (g l.answer ≡ b)

pub then_on : {S T A B C A' B' : Type 0} → (D : ℕ) (Q : World S → A' → World T → B' → Type 0) (k : ℕ) (f : C → A) (g : C → B) (one : Config ℕ → Option (Local ℕ A)) (two : Config ℕ → Option (Local ℕ B)) (go : ℕ → A → Act (World S) A') (go' : ℕ → B → Act (World T) B') (w : World S) (v : World T) (o : Option (Local Both C)) →
    one (w.configs k) ≡ option_map (local_over one_of f) o → two (v.configs k) ≡ option_map (local_over two_of g) o →
    ((l : Local Both C) → o ≡ Some l → Similar D Q (λ d. go d (f l.answer) (with_config w k (config_over one_of l.config))) (λ d. go' d (g l.answer) (with_config v k (config_over two_of l.config)))) →
    Similar D Q (λ d. (on k one >> go d) w) (λ d. (on k two >> go' d) v)
then_on D Q k f g one two go go' w v o e e' each =
    similar_then D (Done_on k f g w v o) Q (λ d. on k one) go (λ d. on k two) go' w v
    (similar_on D (Done_on k f g w v o) k f g one two w v o e e' (λ l is. (l, is, refl, refl, refl, refl)))
    (λ w' a v' b h.
    subst₂ (λ x y. Similar D Q (λ d. go d x w') (λ d. go' d y v')) h.4 h.5
    (subst₂ (λ x y. Similar D Q (λ d. go d (f h.0.answer) x) (λ d. go' d (g h.0.answer) y)) h.2 h.3 (each h.0 h.1)))

some_same : {A : Type 0} → (x y : A) → Some x ≡ Some y → x ≡ y
some_same x y h = cc

-- where it does go
pub then_on_some : {S T A B C A' B' : Type 0} → (D : ℕ) (Q : World S → A' → World T → B' → Type 0) (k : ℕ) (f : C → A) (g : C → B) (one : Config ℕ → Option (Local ℕ A)) (two : Config ℕ → Option (Local ℕ B)) (go : ℕ → A → Act (World S) A') (go' : ℕ → B → Act (World T) B') (w : World S) (v : World T) (l : Local Both C) →
    one (w.configs k) ≡ Some (local_over one_of f l) → two (v.configs k) ≡ Some (local_over two_of g l) →
    Similar D Q (λ d. go d (f l.answer) (with_config w k (config_over one_of l.config))) (λ d. go' d (g l.answer) (with_config v k (config_over two_of l.config))) →
    Similar D Q (λ d. (on k one >> go d) w) (λ d. (on k two >> go' d) v)
then_on_some D Q k f g one two go go' w v l e e' h =
    then_on D Q k f g one two go go' w v (Some l) e e'
    (λ l' is. subst (λ z. Similar D Q (λ d. go d (f z.answer) (with_config w k (config_over one_of z.config))) (λ d. go' d (g z.answer) (with_config v k (config_over two_of z.config)))) (some_same l l' is) h)

module _ {S T A B : Type 0} (D : ℕ) (P : S → A → T → B → Type 0) (Q : World S → A → World T → B → Type 0) where
  below_matches : {S T A B : Type 0} → (P : S → A → T → B → Type 0) (Q : World S → A → World T → B → Type 0) (w : World S) (v : World T) → ((s : S) (a : A) (t : T) (b : B) → P s a t b → Q (record { configs = w.configs; below = s }) a (record { configs = v.configs; below = t }) b) → (x : Out S A) (y : Out T B) → Matches P x y → Matches Q (below_end w x) (below_end v y)
  below_matches P Q w v each (Next o l s a) (Next o' l' t b) h = (h.0, each s a t b h.1)
  below_matches P Q w v each (Over o e) (Over o' e') h = h
  below_matches P Q w v each (Spent o) (Next o' l' t b) h = h
  below_matches P Q w v each (Spent o) (Over o' e') h = h
  below_matches P Q w v each (Spent o) (Spent o') h = h
  below_matches P Q w v each (Next o l s a) (Over o' e') h = absurd h
  below_matches P Q w v each (Next o l s a) (Spent o') h = absurd h
  below_matches P Q w v each (Over o e) (Next o' l' t b) h = absurd h
  below_matches P Q w v each (Over o e) (Spent o') h = absurd h

  below_extends : {S A : Type 0} → (w : World S) (k : ℕ) (x y : Out S A) → Extends k x y → Extends k (below_end w x) (below_end w y)
  below_extends w k (Next o l s a) y h = ap (below_end w) h
  below_extends w k (Over o e) y h = ap (below_end w) h
  below_extends w k (Spent o) (Next o' l' s a) h = h
  below_extends w k (Spent o) (Over o' e) h = h
  below_extends w k (Spent o) (Spent o') h = h

  -- what is below does something
  pub similar_below : (x : Act S A) (y : Act T B) (w : World S) (v : World T) → Similar D P (λ d. x w.below) (λ d. y v.below) →
      ((s : S) (a : A) (t : T) (b : B) → P s a t b → Q (record { configs = w.configs; below = s }) a (record { configs = v.configs; below = t }) b) →
      Similar D Q (λ d. below x w) (λ d. below y v)
  unfolding below
  similar_below x y w v h each = record {
    first = λ n. let r = h.first n in (r.0, below_matches P Q w v each (x w.below n) (y v.below r.0) r.1);
    second = λ n. let r = h.second n in (r.0, below_matches (Flip P) (Flip Q) v w (λ t b s a. each s a t b) (y v.below n) (x w.below r.0) r.1);
    grows = λ D' n k le. below_extends w k (x w.below n) (x w.below (k + n)) (h.grows D' n k le);
    grows' = λ D' n k le. below_extends v k (y v.below n) (y v.below (k + n)) (h.grows' D' n k le);
  }

module _ {S T : Type 0} (D : ℕ) (Q : World S → Pause → World T → Pause → Type 0) where
  -- core code of one instance, in equal stores
  pub similar_core : (k : ℕ) (store : State) (f : ℕ) (args : List CoreValue) (replies : List Reply) (w : World S) (v : World T) →
      ((s : State) (pause : Pause) → Q (with_config w k (with_store (w.configs k) s)) pause (with_config v k (with_store (v.configs k) s)) pause) →
      Similar D Q (λ d. core k store f args replies w) (λ d. core k store f args replies v)
  unfolding core
  similar_core k store f args replies w v each = record {
    first = λ n. (n, at n (evals n));
    second = λ n. (n, at' n (evals n));
    grows = λ D' n i le. more w n i (evals n) (evals (i + n)) (furthers n i);
    grows' = λ D' n i le. more v n i (evals n) (evals (i + n)) (furthers n i);
  }
    where
      evals : ℕ → Outcome
      evals n = eval store f args replies n

      furthers : (n i : ℕ) → Further i (eval store f args replies n) (eval store f args replies (i + n))
      furthers n i = further store f args replies n i

      at : (n : ℕ) (o : Outcome) → Matches Q (core_end w k n o) (core_end v k n o)
      at n (Done results s left) = (refl, each s (Finished results))
      at n CoreTrapped = (refl, refl)
      at n (Asks number asked s left) = (refl, each s (Question number asked s.nesting (n - left)))
      at n CoreSpent = prefix_nil []
      at n CoreTooDeep = (refl, refl)

      at' : (n : ℕ) (o : Outcome) → Matches (Flip Q) (core_end v k n o) (core_end w k n o)
      at' n (Done results s left) = (refl, each s (Finished results))
      at' n CoreTrapped = (refl, refl)
      at' n (Asks number asked s left) = (refl, each s (Question number asked s.nesting (n - left)))
      at' n CoreSpent = prefix_nil []
      at' n CoreTooDeep = (refl, refl)

      more : {U : Type 0} → (u : World U) (n i : ℕ) (o o' : Outcome) → Further i o o' → Extends i (core_end u k n o) (core_end u k (i + n) o')
      more u n i (Done results s left) o' h = ap (core_end u k (i + n)) h
      more u n i CoreTrapped o' h = ap (core_end u k (i + n)) h
      more u n i (Asks number asked s left) o' h =
          let e : (i + n) - (i + left) ≡ n - left = omega arith in
          ap (core_end u k (i + n)) h ∙ ap (λ z. Next [] (i + left) (with_config u k (with_store (u.configs k) s)) (Question number asked s.nesting z)) e
      more u n i CoreSpent o' h = prefix_nil _
      more u n i CoreTooDeep o' h = ap (core_end u k (i + n)) h

abbrev Reads : {S T : Type 0} → World S → World T → State → World S → State → World T → State → Type 0
Reads w v store w' s v' s' = (w' ≡ w) × (v' ≡ v) × (s ≡ store) × (s' ≡ store)

module _ {S T A B : Type 0} (D : ℕ) (Q : World S → A → World T → B → Type 0) where
  -- a store is read, which is the same in both
  pub similar_store : (k : ℕ) (go : ℕ → State → Act (World S) A) (go' : ℕ → State → Act (World T) B) (w : World S) (v : World T) (store : State) → (w.configs k).store ≡ store → (v.configs k).store ≡ store → Similar D Q (λ d. go d store w) (λ d. go' d store v) → Similar D Q (λ d. (store_of k >> go d) w) (λ d. (store_of k >> go' d) v)
  unfolding store_of
  similar_store k go go' w v store e e' h =
      similar_then D (Reads w v store) Q (λ d. store_of k) go (λ d. store_of k) go' w v reads
      (λ w' s v' s' r. subst₂ (λ a b. Similar D Q (λ d. go d a w') (λ d. go' d b v')) (sym r.2) (sym r.3)
      (subst₂ (λ a b. Similar D Q (λ d. go d store a) (λ d. go' d store b)) (sym r.0) (sym r.1) h))
    where
      reads : Similar D (Reads w v store) (λ d. store_of k w) (λ d. store_of k v)
      reads = record {
        first = λ n. (n, (refl, (refl, refl, e, e')));
        second = λ n. (n, (refl, (refl, refl, e, e')));
        grows = λ D' n i le. refl;
        grows' = λ D' n i le. refl;
      }

-- as deep as there are steps
pub similar_deep : {S T A B : Type 0} → (P : S → A → T → B → Type 0) (x : ℕ → Act S A) (y : ℕ → Act T B) (w : S) (v : T) → ((D : ℕ) → Similar D P (λ d. x d w) (λ d. y d v)) → (D : ℕ) → Similar D P (λ d. deep_enough x w) (λ d. deep_enough y v)
unfolding deep_enough
similar_deep P x y w v h D = record {
  first = λ n. let r = (h (suc n)).first n in (n + r.0, matches_extends P n (x (suc n) w n) (y (suc n) v r.0) (y (suc (n + r.0)) v (n + r.0)) r.1 ((h (suc n)).grows' (suc (n + r.0)) r.0 n (omega arith)));
  second = λ n. let r = (h (suc n)).second n in (n + r.0, matches_extends (Flip P) n (y (suc n) v n) (x (suc n) w r.0) (x (suc (n + r.0)) w (n + r.0)) r.1 ((h (suc n)).grows (suc (n + r.0)) r.0 n (omega arith)));
  grows = λ D' n k le. (h (suc n)).grows (suc (k + n)) n k (omega arith);
  grows' = λ D' n k le. (h (suc n)).grows' (suc (k + n)) n k (omega arith);
}
