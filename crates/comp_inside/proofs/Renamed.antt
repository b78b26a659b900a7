-- A group does the same at other numbers of resources: what is done to it, in step.
use Rattle.std.proofs.Common.{◌≡◌, inl, inr, ℕ, zero, suc, ◌+◌, ◌-◌, ◌≤◌, ◌==◌, List, [], ◌∷◌, ◌++◌, Option, Some, None, Bool, true, false, map, slice_index, length, nat_lt, refl, sym, ◌∙◌, ap, subst, arith}
use Rattle.std.specs.Option.{option_map}
use Rattle.std.proofs.Math.Path.{ap₂}
use Rattle.virt_base.specs.declared.core_type.CoreType.{CoreType}
use Rattle.core_memory.specs.Number.{bytes_of}
use Rattle.core_store.specs.State.{State}
use Rattle.core_store.specs.declared.value.CoreValue.{CoreValue}
use Rattle.core_store.specs.declared.value.CoreValue.TheVariants as values
use Rattle.core_store.specs.Words.{words, values_in}
use Rattle.core_store.specs.Config.{Reply, Outcome, Done, Trapped as CoreTrapped, Asks, Spent as CoreSpent, TooDeep as CoreTooDeep}
use Rattle.core_store.specs.Eval.{eval}
use Rattle.core_store.specs.Laws.{Within}
use Rattle.core_store.proofs.Steps.{within}
use Rattle.wit_types.specs.Plain.{Name, Plain, PlainFunc}
use Rattle.wit_types.specs.Layout.{alignment, size}
use Rattle.abi_layout.specs.Functions.{core_params, lowered}
use Rattle.abi_layout.specs.Handles.{renumbered}
use Rattle.abi_layout.specs.Storing.{Step, Ask, Write, Place, Refuse, Lowered}
use Rattle.host_port.specs.Calls.{PlainObservation, Returned}
use Rattle.host_port.specs.Hosts.{HostStep}
use Rattle.comp_types.specs.Substitution.{value_with, func_with}
use Rattle.comp_worlds.specs.Acts.{then_do, Act, ◌>>◌, gives, takes_step, with_more, shows}
use Rattle.comp_worlds.specs.Passing.{Passed, params_tuple, answer_tuple, handles_of, most_params, most_results, spills_over, lower_params, lower_result, out_of_tuple}
use Rattle.comp_worlds.specs.Groups.{Nesting, deeper, at_depth, store_at, Import, Options, Target, Mine, Theirs, type_of, Func, LoweredFunc, ResourceNew, ResourceDrop, ResourceRep, Owner, Stage, Provides, Makes, Begins, Group, Config, World, Due, Nothing, Served, Below, Answer, Origin, Inside, Outside, Ports}
use Rattle.comp_worlds.specs.Locals.{Local, is_open, enter, exit, close, reopen, with_store, lifts, ends_loans, has_no_borrow, adds_handles, has_place, is_granted, writes, base_of, flat_word, makes, reads, removes, provides, makes_module}
use Rattle.comp_worlds.specs.Calls.{pick, with_config, on_end, on, below, Question, core_end, core, store_of, number_if, owned_by, owns, borrowed, unborrowed, plainly, asks_for, stores, lowers_closed, lowers_params, finds_place, lowers_result, post_returns, answers, during, place_in, leaves, calls, destructs, visits, drops, destructs_own, drops_by, drops_if, performs, goes_on, drives, runs, deep_enough, answers_if, starts, does, does_all, is_made}
use Rattle.comp_worlds.specs.Hosts.{hosted}
use Rattle.comp_worlds.specs.Observed.{State as StateOf, stack, first_state, are_made, Call, without_handles, asks_export, leaves_export, makes_calls, runs_calls}
use Rattle.comp_worlds.specs.Parts.{IsImportOf, DropsSome}
use Rattle.comp_worlds.proofs.Exact.{Equals, equals_before, Exact, exact_less, exact_then, exact_gives, exact_step, exact_traps, exact_call, Loose, loose_then, loose_call, loose_more}
use Rattle.comp_worlds.proofs.Embedding.{Eq, LeadsTo, KnownIn}
use Rattle.comp_worlds.proofs.Fair.{Left, Fair, host_fair, stack_fair, are_made_left, exact_below, exact_itself}
use Rattle.comp_worlds.proofs.Whole.{equals_observed, equals_seen}
use Rattle.comp_inside.specs.Renaming.{lifting_with, import_with, target_with, canon_with, Renames, SameAs, SameOverGroups, SameOverHosts}
use Rattle.comp_inside.proofs.Types.{alignment_with, size_with, flat_with, renumbered_with, lower_params_with, lower_result_with, answer_tuple_with, core_params_with, lowered_with}
use Rattle.comp_inside.proofs.Locals.{config_to, local_to, DoesAs, handles_of_to, is_open_to, enter_to, exit_to, close_to, reopen_to, ends_loans_to, has_no_borrow_to, adds_handles_to, has_place_to, is_granted_to, writes_to, makes_to, provides_to, makes_module_to, lifts_to, reads_to, removes_to}

-- the instances of the one are those of the other at other numbers, over the same
pub record Stands {S : Type 0} (to : ℕ → ℕ) (w v : World S) : Type 0 where
  pub here : (k : ℕ) → w.configs k ≡ config_to to (v.configs k)
  pub under : w.below ≡ v.below

abbrev pub due_to : (ℕ → ℕ) → Due → Due
due_to to Nothing = Nothing
due_to to (Served k lifting results) = Served k (lifting_with to lifting) results
due_to to (Below due) = Below due

during_to : (to : ℕ → ℕ) (d : Nesting) (due : Due) → during d (due_to to due) ≡ during d due
during_to to d Nothing = refl
during_to to d (Served k lifting results) = refl
during_to to d (Below due) = refl

type_to : (to : ℕ → ℕ) (target : Target) → type_of (target_with to target) ≡ func_with to (type_of target)
type_to to (Mine k lifting) = refl
type_to to (Theirs f) = refl

both_deep : {W V X Y : Type 0} → (b : ℕ) (P : W → X → V → Y → Type 0) (x : ℕ → Act W X) (y : ℕ → Act V Y) (w : W) (v : V) → ((n : ℕ) → Equals n P (x (suc n) w n) (y (suc n) v n)) → Exact b P (deep_enough x w) (deep_enough y v)
unfolding deep_enough
both_deep b P x y w v h n lt = h n

-- what is under both meets the imports of the one as those of the other
abbrev pub MeetsAlike : {S : Type 0} → Group → (ℕ → ℕ) → Ports S → Type 0
MeetsAlike G to p = (d : Nesting) (from : Origin) (f : Import) (passed : Passed ℕ) → IsImportOf G f → p.ask d from (import_with to f) passed ≡ p.ask d from f passed

module _ {S : Type 0} (G H : Group) (to : ℕ → ℕ) (e : Renames G H to) (p : Ports S) (fair : Fair p) (alike : MeetsAlike G to p) where
  abbrev R : World S → World S → Type 0
  R w v = Stands to w v

  abbrev AnswersTo : World S → Answer → World S → Answer → Type 0
  AnswersTo w a v b = R w v × (a.passed ≡ b.passed) × (a.due ≡ due_to to b.due)

  put : (k : ℕ) (c : Config ℕ) (w v : World S) → R w v → R (with_config w k (config_to to c)) (with_config v k c)
  put k c w v r = record { here = λ i. at i (i == k); under = r.under }
    where
      at : (i : ℕ) (b : Bool) → pick b (config_to to c) (w.configs i) ≡ config_to to (pick b c (v.configs i))
      at i true = refl
      at i false = r.here i

  then_eq : {A B C : Type 0} → (b : ℕ) (Q : World S → B → World S → C → Type 0) (x : Act (World S) A) (go : A → Act (World S) B) (y : Act (World S) A) (go' : A → Act (World S) C) (w v : World S) → Exact b (Eq R) (x w) (y v) → ((w' : World S) (a : A) (v' : World S) → R w' v' → Exact b Q (go a w') (go' a v')) → Exact b Q ((x >> go) w) ((y >> go') v)
  then_eq b Q x go y go' w v h each = exact_then b (Eq R) Q x go y go' w v h (λ w' a v' a' k. subst (λ z. Exact b Q (go a w') (go' z v')) k.1 (each w' a v' k.0))

  done_eq : {A : Type 0} → (b : ℕ) (a : A) (w v : World S) → R w v → Exact b (Eq R) (gives a w) (gives a v)
  done_eq b a w v r = exact_gives b (Eq R) a a w v (r, refl)

  exact_on : {A : Type 0} → (b k : ℕ) (op' op : Config ℕ → Option (Local ℕ A)) → DoesAs to op' op → (w v : World S) → R w v → Exact b (Eq R) (on k op' w) (on k op v)
  unfolding on
  exact_on {A} b k op' op same w v r n lt =
      subst (λ c. Equals n (Eq R) (on_end w k n (op' c)) (on_end v k n (op (v.configs k)))) (sym (r.here k))
      (subst (λ z. Equals n (Eq R) (on_end w k n z) (on_end v k n (op (v.configs k)))) (sym (same (v.configs k))) (at (op (v.configs k))))
    where
      at : (o : Option (Local ℕ A)) → Equals n (Eq R) (on_end w k n (option_map (local_to to) o)) (on_end v k n o)
      at None = (refl, refl)
      at (Some l) = (refl, refl, omega arith, (put k l.config w v r, refl))

  exact_store : {A B : Type 0} → (b k : ℕ) (Q : World S → A → World S → B → Type 0) (go : State → Act (World S) A) (go' : State → Act (World S) B) (w v : World S) → R w v → Exact b Q (go (v.configs k).store w) (go' (v.configs k).store v) → Exact b Q ((store_of k >> go) w) ((store_of k >> go') v)
  unfolding ◌>>◌ store_of
  exact_store b k Q go go' w v r h n lt = equals_before n n Q [] [] _ _ refl (omega arith) (subst (λ c. Equals n Q (go c.store w n) (go' (v.configs k).store v n)) (sym (r.here k)) (h n lt))

  loose_store : {A B : Type 0} → (b k m : ℕ) (Q : World S → A → World S → B → Type 0) (go : State → Act (World S) A) (go' : State → Act (World S) B) (w v : World S) → R w v → Loose b m Q (go (v.configs k).store w) (go' (v.configs k).store v) → Loose b m Q ((store_of k >> go) w) ((store_of k >> go') v)
  unfolding ◌>>◌ store_of
  loose_store b k m Q go go' w v r h n lt = equals_before (m + n) (m + n) Q [] [] _ _ refl (omega arith) (subst (λ c. Equals (m + n) Q (go c.store w n) (go' (v.configs k).store v n)) (sym (r.here k)) (h n lt))

  -- what is below does the same
  same_below : {X : Type 0} → (b : ℕ) (x : Act S X) → ((s : S) (n : ℕ) → Left n (x s n)) → (w v : World S) → R w v → Exact b (Eq R) (below x w) (below x v)
  same_below b x fair' w v r =
      exact_below b (Eq R) x x w v
      (subst (λ z. Exact b (λ s a t a'. Eq R (record { configs = w.configs; below = s }) a (record { configs = v.configs; below = t }) a') (x w.below) (x z)) r.under
      (exact_itself b _ (x w.below) (fair' w.below) (λ s a. (record { here = r.here; under = refl }, refl))))

  abbrev Running : ℕ → ℕ → ℕ → Type 0
  Running b m m' = (d : Nesting) (k f : ℕ) (args : List CoreValue) (w v : World S) → R w v → Exact b (Eq R) (runs H p m d k f args w) (runs G p m' d k f args v)

  abbrev Used : Import → Type 0
  Used f = IsImportOf G f

  owns_to : (k r : ℕ) → owns H k (to r) ≡ owns G k r
  owns_to k r = ap (λ o. owned_by o k) (e.owner r)

  -- handles of a value are added, by its type
  adds_to : (plain plain' : ℕ → ℕ → Option ℕ) → ((r x : ℕ) → plain' (to r) x ≡ plain r x) → (ty : Plain) (passed : Passed ℕ) → DoesAs to (adds_handles plain' (handles_of (value_with to ty) passed)) (adds_handles plain (handles_of ty passed))
  adds_to plain plain' same ty passed c = ap (λ hs. adds_handles plain' hs (config_to to c)) (handles_of_to to ty passed) ∙ adds_handles_to to plain plain' same (handles_of ty passed) c

  module _ (b m m' : ℕ) (run : Running b m m') where
    exact_asks_for : (d : Nesting) (k : ℕ) (f : Option ℕ) (align len : ℕ) (w v : World S) → R w v → Exact b (Eq R) (asks_for H p (runs H p m) d k f align len w) (asks_for G p (runs G p m') d k f align len v)
    exact_asks_for d k None align len w v r = exact_traps b (Eq R) w v
    exact_asks_for d k (Some f) align len w v r = exact_less (suc b) b (Eq R) _ _ (omega arith) (exact_call b d (Eq R) _ _ w v (run (deeper d) k f _ w v r))

    exact_stores : (d : Nesting) (k : ℕ) (options : Options) (target : ℕ) (steps : List Step) (made : List ℕ) (w v : World S) → R w v → Exact b (Eq R) (stores H p (runs H p m) d k options target made steps w) (stores G p (runs G p m') d k options target made steps v)
    exact_stores d k options target [] made w v r = done_eq b made w v r
    exact_stores d k options target (Ask align len ∷ steps) made w v r =
        then_eq b (Eq R) _ _ _ _ w v (exact_asks_for d k options.realloc align len w v r)
        (λ w1 results v1 r1.
        then_eq b (Eq R) _ _ _ _ w1 v1 (exact_on b k (is_granted options align len (words results)) (is_granted options align len (words results)) (is_granted_to to options align len (words results)) w1 v1 r1)
        (λ w2 at v2 r2. exact_stores d k options target steps (made ++ at ∷ []) w2 v2 r2))
    exact_stores d k options target (Write base offset bytes ∷ steps) made w v r =
        then_eq b (Eq R) _ _ _ _ w v (exact_on b k (writes options (base_of target made base + offset) bytes) (writes options (base_of target made base + offset) bytes) (writes_to to options (base_of target made base + offset) bytes) w v r) (λ w1 x v1 r1. exact_stores d k options target steps made w1 v1 r1)
    exact_stores d k options target (Place base offset request ∷ steps) made w v r =
        then_eq b (Eq R) _ _ _ _ w v (exact_on b k (writes options (base_of target made base + offset) (bytes_of 4 (slice_index made request))) (writes options (base_of target made base + offset) (bytes_of 4 (slice_index made request))) (writes_to to options (base_of target made base + offset) (bytes_of 4 (slice_index made request))) w v r) (λ w1 x v1 r1. exact_stores d k options target steps made w1 v1 r1)
    exact_stores d k options target (Refuse ∷ steps) made w v r = exact_traps b (Eq R) w v

    exact_closed : (d : Nesting) (k : ℕ) (options : Options) (target : ℕ) (l : Lowered) (w v : World S) → R w v → Exact b (Eq R) (lowers_closed H p (runs H p m) d k options target l w) (lowers_closed G p (runs G p m') d k options target l v)
    exact_closed d k options target l w v r =
        then_eq b (Eq R) _ _ _ _ w v (exact_on b k close close (close_to to) w v r)
        (λ w1 x v1 r1.
        then_eq b (Eq R) _ _ _ _ w1 v1 (exact_stores d k options target l.steps [] w1 v1 r1)
        (λ w2 made v2 r2.
        then_eq b (Eq R) _ _ _ _ w2 v2 (exact_on b k reopen reopen (reopen_to to) w2 v2 r2)
        (λ w3 y v3 r3. done_eq b (map (flat_word made) l.flats) w3 v3 r3)))

    exact_params : (d : Nesting) (k : ℕ) (options : Options) (ty : Plain) (passed : Passed ℕ) (w v : World S) → R w v → Exact b (Eq R) (lowers_params H p (runs H p m) d k options (value_with to ty) passed w) (lowers_params G p (runs G p m') d k options ty passed v)
    exact_params d k options ty passed w v r =
        then_eq b (Eq R) _ _ _ _ w v (exact_on b k (adds_handles (borrowed H plainly k) (handles_of (value_with to ty) passed)) (adds_handles (borrowed G plainly k) (handles_of ty passed)) (adds_to (borrowed G plainly k) (borrowed H plainly k) (λ r' x. ap (λ o. number_if o x) (owns_to k r')) ty passed) w v r)
        (λ w1 indexes v1 r1.
        subst (λ z. Exact b (Eq R) (lowers_closed H p (runs H p m) d k options 0 z w1) (lowers_closed G p (runs G p m') d k options 0 (lower_params ty (renumbered ty passed.value indexes)) v1))
        (sym (ap (lower_params (value_with to ty)) (renumbered_with to ty passed.value indexes) ∙ lower_params_with to ty (renumbered ty passed.value indexes)))
        (exact_closed d k options 0 (lower_params ty (renumbered ty passed.value indexes)) w1 v1 r1))

    exact_place : (c : Bool) (k : ℕ) (options : Options) (ty : Plain) (at : ℕ) (w v : World S) → R w v → Exact b (Eq R) (finds_place H p (runs H p m) c k options (value_with to ty) at w) (finds_place G p (runs G p m') c k options ty at v)
    exact_place false k options ty at w v r = done_eq b tt w v r
    exact_place true k options ty at w v r =
        exact_on b k (has_place options (alignment (value_with to ty)) (size (value_with to ty)) at) (has_place options (alignment ty) (size ty) at) (λ c. ap₂ (λ a s. has_place options a s at (config_to to c)) (alignment_with to ty) (size_with to ty) ∙ has_place_to to options (alignment ty) (size ty) at c) w v r

    spills_to : (ty : Plain) → spills_over most_results (value_with to ty) ≡ spills_over most_results ty
    spills_to ty = ap (λ (fs : List CoreType). nat_lt most_results (length fs)) (flat_with to ty)

    exact_result : (d : Nesting) (k : ℕ) (options : Options) (ty : Plain) (at : ℕ) (passed : Passed ℕ) (w v : World S) → R w v → Exact b (Eq R) (lowers_result H p (runs H p m) d k options (value_with to ty) at passed w) (lowers_result G p (runs G p m') d k options ty at passed v)
    exact_result d k options ty at passed w v r =
        then_eq b (Eq R) _ _ _ _ w v (exact_on b k (adds_handles unborrowed (handles_of (value_with to ty) passed)) (adds_handles unborrowed (handles_of ty passed)) (adds_to unborrowed unborrowed (λ r' x. refl) ty passed) w v r)
        (λ w1 indexes v1 r1.
        then_eq b (Eq R) _ _ _ _ w1 v1
        (subst (λ c. Exact b (Eq R) (finds_place H p (runs H p m) c k options (value_with to ty) at w1) (finds_place G p (runs G p m') (spills_over most_results ty) k options ty at v1)) (sym (spills_to ty))
        (exact_place (spills_over most_results ty) k options ty at w1 v1 r1))
        (λ w2 x v2 r2.
        subst (λ z. Exact b (Eq R) (lowers_closed H p (runs H p m) d k options at z w2) (lowers_closed G p (runs G p m') d k options at (lower_result ty (renumbered ty passed.value indexes)) v2))
        (sym (ap (lower_result (value_with to ty)) (renumbered_with to ty passed.value indexes) ∙ lower_result_with to ty (renumbered ty passed.value indexes)))
        (exact_closed d k options at (lower_result ty (renumbered ty passed.value indexes)) w2 v2 r2)))

    exact_posts : (d : Nesting) (k : ℕ) (results : List CoreValue) (post : Option ℕ) (w v : World S) → R w v → Exact b (Eq R) (post_returns H p (runs H p m) d k results post w) (post_returns G p (runs G p m') d k results post v)
    exact_posts d k results None w v r = done_eq b tt w v r
    exact_posts d k results (Some f) w v r =
        exact_less (suc b) b (Eq R) _ _ (omega arith)
        (exact_call b d (Eq R) _ _ w v
        (then_eq b (Eq R) _ _ _ _ w v (exact_on b k close close (close_to to) w v r)
        (λ w1 x v1 r1.
        then_eq b (Eq R) _ _ _ _ w1 v1 (run (deeper d) k f results w1 v1 r1)
        (λ w2 y v2 r2. exact_on b k reopen reopen (reopen_to to) w2 v2 r2))))

    exact_lifts : (k most : ℕ) (ty : Plain) (options : Options) (ws : List ℕ) (w v : World S) → R w v → Exact b (Eq R) (on k (lifts most (value_with to ty) options ws) w) (on k (lifts most ty options ws) v)
    exact_lifts k most ty options ws w v r = exact_on b k (lifts most (value_with to ty) options ws) (lifts most ty options ws) (lifts_to to e.once most ty options ws) w v r

    -- what is below is asked, by names
    exact_import : (d : Nesting) (from : Origin) (f : Import) (passed : Passed ℕ) → Used f → (w v : World S) → R w v → Exact b AnswersTo (answers H p (runs H p m) d from (Theirs (import_with to f)) passed w) (answers G p (runs G p m') d from (Theirs f) passed v)
    exact_import d from f passed used w v r =
        exact_then b (Eq R) AnswersTo _ _ _ _ w v
        (subst (λ x. Exact b (Eq R) (below x w) (below (p.ask d from f passed) v)) (sym (alike d from f passed used)) (same_below b (p.ask d from f passed) (fair.asks d from f passed) w v r))
        (λ w1 a v1 a' k. exact_gives b AnswersTo _ _ w1 v1 (k.0, ap (λ z. z.passed) k.1, ap (λ z. Below z.due) k.1))

    exact_answers : (d : Nesting) (from : Origin) (target : Target) → LeadsTo Used target → (passed : Passed ℕ) (w v : World S) → R w v → Exact b AnswersTo (answers H p (runs H p m) d from (target_with to target) passed w) (answers G p (runs G p m') d from target passed v)
    exact_answers d from (Mine k lifting) used passed w v r =
        exact_less (suc b) b AnswersTo _ _ (omega arith)
        (exact_call b d AnswersTo _ _ w v
        (then_eq b AnswersTo _ _ _ _ w v (exact_on b k enter enter (enter_to to) w v r)
        (λ w1 x v1 r1.
        then_eq b AnswersTo _ _ _ _ w1 v1 (exact_params (deeper d) k lifting.options (params_tuple lifting.ty) passed w1 v1 r1)
        (λ w2 args v2 r2.
        then_eq b AnswersTo _ _ _ _ w2 v2
        (subst (λ z. Exact b (Eq R) (runs H p m (deeper d) k lifting.code (values_in 0 z args) w2) (runs G p m' (deeper d) k lifting.code (values_in 0 (core_params lifting.ty) args) v2)) (sym (core_params_with to lifting.ty))
        (run (deeper d) k lifting.code (values_in 0 (core_params lifting.ty) args) w2 v2 r2))
        (λ w3 results v3 r3.
        then_eq b AnswersTo _ _ _ _ w3 v3
        (subst (λ z. Exact b (Eq R) (on k (lifts most_results z lifting.options (words results)) w3) (on k (lifts most_results (answer_tuple lifting.ty) lifting.options (words results)) v3)) (sym (answer_tuple_with to lifting.ty))
        (exact_lifts k most_results (answer_tuple lifting.ty) lifting.options (words results) w3 v3 r3))
        (λ w4 l v4 r4.
        then_eq b AnswersTo _ _ _ _ w4 v4 (exact_on b k (has_no_borrow l.loans) (has_no_borrow l.loans) (has_no_borrow_to to l.loans) w4 v4 r4)
        (λ w5 y v5 r5. exact_gives b AnswersTo (record { passed = l.passed; due = Served k (lifting_with to lifting) results }) (record { passed = l.passed; due = Served k lifting results }) w5 v5 (r5, refl, refl))))))))
    exact_answers d from (Theirs f) used passed w v r = exact_import d from f passed used w v r

    exact_leaves : (d : Nesting) (due : Due) (w v : World S) → R w v → Exact b (Eq R) (leaves H p (runs H p m) d (due_to to due) w) (leaves G p (runs G p m') d due v)
    exact_leaves d Nothing w v r = done_eq b tt w v r
    exact_leaves d (Below due) w v r = same_below b (p.leave d due) (fair.leaves d due) w v r
    exact_leaves d (Served k lifting results) w v r =
        then_eq b (Eq R) _ _ _ _ w v (exact_posts (deeper d) k results lifting.post w v r) (λ w1 x v1 r1. exact_on b k exit exit (exit_to to) w1 v1 r1)

    -- the rest of a call
    exact_finish : (d : Nesting) (k : ℕ) (ty : PlainFunc) (options : Options) (args loans : List ℕ) (w3 : World S) (a : Answer) (v3 : World S) (a' : Answer) → AnswersTo w3 a v3 a' → Exact b (Eq R)
        ((on k (ends_loans loans) >> λ _. lowers_result H p (runs H p m) (during d a.due) k options (answer_tuple (func_with to ty)) (place_in (func_with to ty) args) a.passed >> λ results. leaves H p (runs H p m) d a.due >> λ _. gives (values_in 0 (lowered (func_with to ty)).results results)) w3)
        ((on k (ends_loans loans) >> λ _. lowers_result G p (runs G p m') (during d a'.due) k options (answer_tuple ty) (place_in ty args) a'.passed >> λ results. leaves G p (runs G p m') d a'.due >> λ _. gives (values_in 0 (lowered ty).results results)) v3)
    exact_finish d k ty options args loans w3 a v3 a' r3 =
        then_eq b (Eq R) _ _ _ _ w3 v3 (exact_on b k (ends_loans loans) (ends_loans loans) (ends_loans_to to loans) w3 v3 r3.0)
        (λ w4 y v4 r4.
        then_eq b (Eq R) _ _ _ _ w4 v4
        (subst (λ z. Exact b (Eq R) (lowers_result H p (runs H p m) (during d a.due) k options (answer_tuple (func_with to ty)) (place_in (func_with to ty) args) z w4) (lowers_result G p (runs G p m') (during d a'.due) k options (answer_tuple ty) (place_in ty args) a'.passed v4)) (sym r3.1)
        (subst (λ z. Exact b (Eq R) (lowers_result H p (runs H p m) z k options (answer_tuple (func_with to ty)) (place_in (func_with to ty) args) a'.passed w4) (lowers_result G p (runs G p m') (during d a'.due) k options (answer_tuple ty) (place_in ty args) a'.passed v4)) (sym (ap (during d) r3.2 ∙ during_to to d a'.due))
        (subst (λ t. Exact b (Eq R) (lowers_result H p (runs H p m) (during d a'.due) k options t (place_in (func_with to ty) args) a'.passed w4) (lowers_result G p (runs G p m') (during d a'.due) k options (answer_tuple ty) (place_in ty args) a'.passed v4)) (sym (answer_tuple_with to ty))
        (subst (λ ps. Exact b (Eq R) (lowers_result H p (runs H p m) (during d a'.due) k options (value_with to (answer_tuple ty)) (slice_index args (length ps)) a'.passed w4) (lowers_result G p (runs G p m') (during d a'.due) k options (answer_tuple ty) (place_in ty args) a'.passed v4)) (sym (core_params_with to ty))
        (exact_result (during d a'.due) k options (answer_tuple ty) (place_in ty args) a'.passed w4 v4 r4)))))
        (λ w5 results v5 r5.
        then_eq b (Eq R) _ _ _ _ w5 v5
        (subst (λ z. Exact b (Eq R) (leaves H p (runs H p m) d z w5) (leaves G p (runs G p m') d a'.due v5)) (sym r3.2) (exact_leaves d a'.due w5 v5 r5))
        (λ w6 z v6 r6.
        subst (λ l. Exact b (Eq R) (gives (values_in 0 l.results results) w6) (gives (values_in 0 (lowered ty).results results) v6)) (sym (lowered_with to ty))
        (done_eq b (values_in 0 (lowered ty).results results) w6 v6 r6))))

    exact_calls : (d : Nesting) (k : ℕ) (target : Target) → LeadsTo Used target → (options : Options) (args : List ℕ) (w v : World S) → R w v → Exact b (Eq R) (calls H p (runs H p m) d k (target_with to target) options args w) (calls G p (runs G p m') d k target options args v)
    exact_calls d k target used options args w v r =
        subst (λ ty. Exact b (Eq R)
        ((on k is_open >> λ _. on k (lifts most_params (params_tuple ty) options args) >> λ l. answers H p (runs H p m) d Inside (target_with to target) l.passed >> λ answer. on k (ends_loans l.loans) >> λ _. lowers_result H p (runs H p m) (during d answer.due) k options (answer_tuple ty) (place_in ty args) answer.passed >> λ results. leaves H p (runs H p m) d answer.due >> λ _. gives (values_in 0 (lowered ty).results results)) w)
        (calls G p (runs G p m') d k target options args v)) (sym (type_to to target))
        (then_eq b (Eq R) _ _ _ _ w v (exact_on b k is_open is_open (is_open_to to) w v r)
        (λ w1 x v1 r1.
        then_eq b (Eq R) _ _ _ _ w1 v1 (exact_lifts k most_params (params_tuple (type_of target)) options args w1 v1 r1)
        (λ w2 l v2 r2.
        exact_then b AnswersTo (Eq R) _ _ _ _ w2 v2 (exact_answers d Inside target used l.passed w2 v2 r2)
        (λ w3 a v3 a' r3. exact_finish d k (type_of target) options args l.loans w3 a v3 a' r3))))

    exact_destructs : (d : Nesting) (k x : ℕ) (post : Option ℕ) (w v : World S) → R w v → Exact b (Eq R) (destructs H p (runs H p m) d k x post w) (destructs G p (runs G p m') d k x post v)
    exact_destructs d k x None w v r = done_eq b tt w v r
    exact_destructs d k x (Some f) w v r =
        exact_less (suc b) b (Eq R) _ _ (omega arith)
        (exact_call b d (Eq R) _ _ w v (then_eq b (Eq R) _ _ _ _ w v (run (deeper d) k f (values.I32 x ∷ []) w v r) (λ w1 y v1 r1. done_eq b tt w1 v1 r1)))

    exact_visits : (d : Nesting) (o : Owner) (x : ℕ) (w v : World S) → R w v → Exact b (Eq R) (visits H p (runs H p m) d o x w) (visits G p (runs G p m') d o x v)
    exact_visits d o x w v r =
        then_eq b (Eq R) _ _ _ _ w v (exact_on b o.instance enter enter (enter_to to) w v r)
        (λ w1 y v1 r1.
        then_eq b (Eq R) _ _ _ _ w1 v1 (exact_destructs d o.instance x o.destructor w1 v1 r1)
        (λ w2 z v2 r2. exact_on b o.instance exit exit (exit_to to) w2 v2 r2))

    exact_drops : (d : Nesting) (r' x : ℕ) (o : Option Owner) → DropsSome G r' → (w v : World S) → R w v → Exact b (Eq R) (drops H p (runs H p m) d (to r') x o w) (drops G p (runs G p m') d r' x o v)
    exact_drops d r' x None known w v r =
        subst (λ z. Exact b (Eq R) (below (p.drop d z x) w) (below (p.drop d (G.imported r') x) v)) (sym (e.imported r' known)) (same_below b (p.drop d (G.imported r') x) (fair.drops d (G.imported r') x) w v r)
    exact_drops d r' x (Some o) known w v r = exact_visits d o x w v r

    exact_own : (d : Nesting) (k x : ℕ) (o : Option Owner) (w v : World S) → R w v → Exact b (Eq R) (destructs_own H p (runs H p m) d k x o w) (destructs_own G p (runs G p m') d k x o v)
    exact_own d k x None w v r = done_eq b tt w v r
    exact_own d k x (Some o) w v r = exact_destructs d k x o.destructor w v r

    exact_drops_by : (d : Nesting) (k r' x : ℕ) (own : Bool) → DropsSome G r' → (w v : World S) → R w v → Exact b (Eq R) (drops_by H p (runs H p m) d k (to r') x own w) (drops_by G p (runs G p m') d k r' x own v)
    exact_drops_by d k r' x true known w v r =
        subst (λ o. Exact b (Eq R) (destructs_own H p (runs H p m) d k x o w) (destructs_own G p (runs G p m') d k x (G.owner r') v)) (sym (e.owner r')) (exact_own d k x (G.owner r') w v r)
    exact_drops_by d k r' x false known w v r =
        subst (λ o. Exact b (Eq R) (drops H p (runs H p m) d (to r') x o w) (drops G p (runs G p m') d r' x (G.owner r') v)) (sym (e.owner r')) (exact_drops d r' x (G.owner r') known w v r)

    exact_drops_if : (d : Nesting) (k r' : ℕ) (o : Option ℕ) → DropsSome G r' → (w v : World S) → R w v → Exact b (Eq R) (drops_if H p (runs H p m) d k (to r') o w) (drops_if G p (runs G p m') d k r' o v)
    exact_drops_if d k r' None known w v r = done_eq b [] w v r
    exact_drops_if d k r' (Some x) known w v r =
        subst (λ o. Exact {A = List CoreValue} {B = List CoreValue} b (Eq R) ((drops_by H p (runs H p m) d k (to r') x o >> λ _. gives []) w) ((drops_by G p (runs G p m') d k r' x (owns G k r') >> λ _. gives []) v)) (sym (owns_to k r'))
        (then_eq b (Eq R) _ _ _ _ w v (exact_drops_by d k r' x (owns G k r') known w v r) (λ w1 y v1 r1. done_eq b [] w1 v1 r1))

    exact_performs : (d : Nesting) (k : ℕ) (args : List ℕ) (f : Option Func) → KnownIn Used (DropsSome G) f → (w v : World S) → R w v → Exact b (Eq R) (performs H p (runs H p m) d k args (option_map (canon_with to) f) w) (performs G p (runs G p m') d k args f v)
    exact_performs d k args None known w v r = exact_traps b (Eq R) w v
    exact_performs d k args (Some (LoweredFunc target options)) known w v r = exact_calls d k target known options args w v r
    exact_performs d k args (Some (ResourceNew r')) known w v r =
        subst (λ o. Exact b (Eq R) ((on k (makes plainly o (to r') args) >> λ ws. gives (map values.I32 ws)) w) ((on k (makes plainly (owns G k r') r' args) >> λ ws. gives (map values.I32 ws)) v)) (sym (owns_to k r'))
        (then_eq b (Eq R) _ _ _ _ w v (exact_on b k (makes plainly (owns G k r') (to r') args) (makes plainly (owns G k r') r' args) (makes_to to plainly (owns G k r') r' args) w v r) (λ w1 ws v1 r1. done_eq b (map values.I32 ws) w1 v1 r1))
    exact_performs d k args (Some (ResourceRep r')) known w v r =
        subst (λ o. Exact b (Eq R) ((on k (reads plainly o (to r') args) >> λ ws. gives (map values.I32 ws)) w) ((on k (reads plainly (owns G k r') r' args) >> λ ws. gives (map values.I32 ws)) v)) (sym (owns_to k r'))
        (then_eq b (Eq R) _ _ _ _ w v (exact_on b k (reads plainly (owns G k r') (to r') args) (reads plainly (owns G k r') r' args) (reads_to to e.once plainly (owns G k r') r' args) w v r) (λ w1 ws v1 r1. done_eq b (map values.I32 ws) w1 v1 r1))
    exact_performs d k args (Some (ResourceDrop r')) known w v r =
        then_eq b (Eq R) _ _ _ _ w v (exact_on b k (removes (to r') args) (removes r' args) (removes_to to e.once r' args) w v r) (λ w1 o v1 r1. exact_drops_if d k r' o known w1 v1 r1)

  -- what core code may call
  known : (k n : ℕ) (f : Option Func) → G.canons k n ≡ f → KnownIn Used (DropsSome G) f
  known k n None is = tt
  known k n (Some (LoweredFunc (Mine m lifting) options)) is = tt
  known k n (Some (LoweredFunc (Theirs f) options)) is = inl (k, n, options, is)
  known k n (Some (ResourceNew r)) is = tt
  known k n (Some (ResourceDrop r)) is = (k, n, is)
  known k n (Some (ResourceRep r)) is = tt

  -- core code goes on from its end or its next question
  module _ (b m m' : ℕ) (run : Running b m m') (d : Nesting) (k f : ℕ) (args : List CoreValue) (store : State) (replies : List Reply) where
    Again : Type 0
    Again = (replies' : List Reply) (w v : World S) → R w v → Exact b (Eq R) (drives H p m d k f args store replies' w) (drives G p m' d k f args store replies' v)

    asks_on : Again → (number : ℕ) (asked : List CoreValue) (now n l : ℕ) → l ≤ n → n ≤ b → (w v : World S) → R w v →
        Equals n (Eq R) (goes_on H p (runs H p m) (λ reply. drives H p m d k f args store (replies ++ reply ∷ [])) d k (Question number asked now (n - l)) w l) (goes_on G p (runs G p m') (λ reply. drives G p m' d k f args store (replies ++ reply ∷ [])) d k (Question number asked now (n - l)) v l)
    unfolding Again
    asks_on again number asked now n l less most w v r =
        subst (λ i. Equals i (Eq R) (goes_on H p (runs H p m) (λ reply. drives H p m d k f args store (replies ++ reply ∷ [])) d k (Question number asked now (n - l)) w l) (goes_on G p (runs G p m') (λ reply. drives G p m' d k f args store (replies ++ reply ∷ [])) d k (Question number asked now (n - l)) v l)) (omega arith)
        (loose_call l (n - l) (at_depth d now) (Eq R) _ _ w v
        (loose_then l (n - l) (Eq R) (Eq R) _ _ _ _ w v
        (exact_less b l (Eq R) _ _ (omega arith)
        (subst (λ func. Exact b (Eq R) (performs H p (runs H p m) (deeper (at_depth d now)) k (words asked) func w) (performs G p (runs G p m') (deeper (at_depth d now)) k (words asked) (G.canons k number) v)) (sym (e.canons k number))
        (exact_performs b m m' run (deeper (at_depth d now)) k (words asked) (G.canons k number) (known k number (G.canons k number) refl) w v r)))
        (λ w1 results v1 results' r1.
        subst (λ z. Loose l (n - l) (Eq R) ((store_of k >> λ store'. with_more (n - l) (drives H p m d k f args store (replies ++ record { results = results; store = record (store_at d store') { nesting = now } } ∷ []))) w1) ((store_of k >> λ store'. with_more (n - l) (drives G p m' d k f args store (replies ++ record { results = z; store = record (store_at d store') { nesting = now } } ∷ []))) v1)) r1.1
        (loose_store l k (n - l) (Eq R) _ _ w1 v1 r1.0
        (loose_more l b (n - l) (Eq R) _ _ w1 v1 (omega arith) (again (replies ++ record { results = results; store = record (store_at d (v1.configs k).store) { nesting = now } } ∷ []) w1 v1 r1.0)))))
        l (omega arith))

    -- core code runs, and then
    core_on : Again → (n : ℕ) → n ≤ b → (w v : World S) → R w v → Equals n (Eq R) (drives H p (suc m) d k f args store replies w n) (drives G p (suc m') d k f args store replies v n)
    unfolding ◌>>◌ core gives
    core_on again n most w v r = at (eval store f args replies n) (within store f args replies n)
      where
        with : (c : State) → R (with_config w k (with_store (w.configs k) c)) (with_config v k (with_store (v.configs k) c))
        with c = subst (λ z. R (with_config w k (with_store z c)) (with_config v k (with_store (v.configs k) c))) (sym (r.here k)) (put k (with_store (v.configs k) c) w v r)

        at : (o : Outcome) → Within n o → Equals n (Eq R) (then_do (core_end w k n o) (λ pause. goes_on H p (runs H p m) (λ reply. drives H p m d k f args store (replies ++ reply ∷ [])) d k pause)) (then_do (core_end v k n o) (λ pause. goes_on G p (runs G p m') (λ reply. drives G p m' d k f args store (replies ++ reply ∷ [])) d k pause))
        at (Done results c l) less = (refl, refl, less, (with c, refl))
        at CoreTrapped less = (refl, refl)
        at (Asks number asked c l) less = equals_before n n (Eq R) [] [] _ _ refl (omega arith) (asks_on again number asked c.nesting n l less most _ _ (with c))
        at CoreSpent less = refl
        at CoreTooDeep less = (refl, refl)

  -- core code from its beginning
  exact_drives : (b m m' : ℕ) → b ≤ m → b ≤ m' → (d : Nesting) (k f : ℕ) (args : List CoreValue) (store : State) (replies : List Reply) (w v : World S) → R w v → Exact b (Eq R) (drives H p m d k f args store replies w) (drives G p m' d k f args store replies v)
  unfolding Again
  exact_drives zero m m' le le' d k f args store replies w v r = λ n lt. absurd (omega arith)
  exact_drives (suc b) zero m' le le' d k f args store replies w v r = λ n lt. absurd (omega arith)
  exact_drives (suc b) (suc m) zero le le' d k f args store replies w v r = λ n lt. absurd (omega arith)
  exact_drives (suc b) (suc m) (suc m') le le' d k f args store replies w v r = λ n lt.
      core_on b m m'
      (λ d' k' f' args' w' v' r'. exact_store b k' (Eq R) _ _ w' v' r' (exact_drives b m m' (omega arith) (omega arith) d' k' f' args' (store_at d' (v'.configs k').store) [] w' v' r'))
      d k f args store replies
      (λ replies' w' v' r'. exact_drives b m m' (omega arith) (omega arith) d k f args store replies' w' v' r') n (omega arith) w v r

  exact_runs : (b m m' : ℕ) → b ≤ m → b ≤ m' → Running b m m'
  exact_runs b m m' le le' d k f args w v r = exact_store b k (Eq R) _ _ w v r (exact_drives b m m' le le' d k f args (store_at d (v.configs k).store) [] w v r)

  -- ---- the making

  exact_starts : (b m m' : ℕ) → b ≤ m → b ≤ m' → (d : Nesting) (k : ℕ) (start : Option ℕ) (w v : World S) → R w v → Exact b (Eq R) (starts H p (runs H p m) d k start w) (starts G p (runs G p m') d k start v)
  exact_starts b m m' le le' d k None w v r = done_eq b tt w v r
  exact_starts b m m' le le' d k (Some f) w v r = then_eq b (Eq R) _ _ _ _ w v (exact_runs b m m' le le' d k f [] w v r) (λ w1 x v1 r1. done_eq b tt w1 v1 r1)

  one_step : (b : ℕ) (w v : World S) → R w v → Exact b (Eq R) (takes_step w) (takes_step v)
  unfolding takes_step
  one_step b w v r zero lt = refl
  one_step b w v r (suc n) lt = (refl, refl, omega arith, (r, refl))

  exact_does : (b m m' : ℕ) → b ≤ m → b ≤ m' → (d : Nesting) (stage : Stage) (w v : World S) → R w v → Exact b (Eq R) (does H p (runs H p m) d stage w) (does G p (runs G p m') d stage v)
  exact_does b m m' le le' d (Provides k ty number) w v r = exact_on b k (provides ty number) (provides ty number) (provides_to to ty number) w v r
  exact_does b m m' le le' d (Makes k make start) w v r =
      exact_less (suc b) b (Eq R) _ _ (omega arith)
      (exact_step b (Eq R) _ _ w v
      (then_eq b (Eq R) _ _ _ _ w v (exact_on b k (makes_module make) (makes_module make) (makes_module_to to make) w v r) (λ w1 x v1 r1. exact_starts b m m' le le' d k start w1 v1 r1)))
  exact_does b m m' le le' d Begins w v r = one_step b w v r

  exact_all : (b m m' : ℕ) → b ≤ m → b ≤ m' → (d : Nesting) (list : List Stage) (w v : World S) → R w v → Exact b (Eq R) (does_all H p (runs H p m) d list w) (does_all G p (runs G p m') d list v)
  exact_all b m m' le le' d [] w v r = done_eq b tt w v r
  exact_all b m m' le le' d (stage ∷ rest) w v r =
      then_eq b (Eq R) _ _ _ _ w v (exact_does b m m' le le' d stage w v r) (λ w1 x v1 r1. exact_all b m m' le le' d rest w1 v1 r1)

  made_alike : (b : ℕ) (d : Nesting) (w v : World S) → R w v → Exact b (Eq R) (is_made H p d w) (is_made G p d v)
  made_alike b d w v r =
      both_deep b (Eq R) _ _ w v
      (λ n. subst (λ list. Equals n (Eq R) (does_all H p (runs H p (suc n)) d list w n) (does_all G p (runs G p (suc n)) d G.stages v n)) (sym e.stages)
      (exact_all (suc n) (suc n) (suc n) (omega arith) (omega arith) d G.stages w v r n (omega arith)))

  -- ---- calls from outside

  abbrev Any : World S → Unit {0} → World S → Unit {0} → Type 0
  Any w a v b = Unit {0}

  leads : (interface function : Name) (target : Target) → G.exports interface function ≡ Some target → LeadsTo Used target
  leads interface function (Mine k lifting) is = tt
  leads interface function (Theirs f) is = inr (interface, function, is)

  asks_alike : (b : ℕ) (d : Nesting) (call : Call) (w v : World S) → R w v → Exact b AnswersTo (asks_export H p d call w) (asks_export G p d call v)
  asks_alike b d call w v r =
      both_deep b AnswersTo _ _ w v
      (λ n. subst (λ z. Equals n AnswersTo (answers_if H p (runs H p (suc n)) d Outside z (without_handles call) w n) (answers_if G p (runs G p (suc n)) d Outside (G.exports call.interface call.function) (without_handles call) v n)) (sym (e.exports call.interface call.function))
      (at n (G.exports call.interface call.function) refl n (omega arith)))
    where
      at : (n : ℕ) (o : Option Target) → G.exports call.interface call.function ≡ o → Exact (suc n) AnswersTo (answers_if H p (runs H p (suc n)) d Outside (option_map (target_with to) o) (without_handles call) w) (answers_if G p (runs G p (suc n)) d Outside o (without_handles call) v)
      at n None is = exact_traps (suc n) AnswersTo w v
      at n (Some t) is = exact_answers (suc n) (suc n) (suc n) (exact_runs (suc n) (suc n) (suc n) (omega arith) (omega arith)) d Outside t (leads call.interface call.function t is) (without_handles call) w v r

  leaves_alike : (b : ℕ) (d : Nesting) (due : Due) (w v : World S) → R w v → Exact b (Eq R) (leaves_export H p d (due_to to due) w) (leaves_export G p d due v)
  leaves_alike b d due w v r =
      both_deep b (Eq R) _ _ w v (λ n. exact_leaves (suc n) (suc n) (suc n) (exact_runs (suc n) (suc n) (suc n) (omega arith) (omega arith)) d due w v r n (omega arith))

  shows_alike : (b : ℕ) (o : List PlainObservation) (w v : World S) → R w v → Exact b (Eq R) (shows o w) (shows o v)
  unfolding shows
  shows_alike b o w v r n lt = (refl, refl, omega arith, (r, refl))

  calls_alike : (b : ℕ) (d : Nesting) (calls : List Call) (w v : World S) → R w v → Exact b Any (makes_calls H p d calls w) (makes_calls G p d calls v)
  calls_alike b d [] w v r = exact_gives b Any tt tt w v tt
  calls_alike b d (call ∷ rest) w v r =
      exact_then b AnswersTo Any _ _ _ _ w v (asks_alike b d call w v r)
      (λ w1 a v1 a' k.
      exact_then b (Eq R) Any _ _ _ _ w1 v1 (subst (λ z. Exact b (Eq R) (leaves_export H p d z w1) (leaves_export G p d a'.due v1)) (sym k.2) (leaves_alike b d a'.due w1 v1 k.0))
      (λ w2 x v2 y k2.
      exact_then b (Eq R) Any _ _ _ _ w2 v2 (subst (λ z. Exact b (Eq R) (shows (Returned (out_of_tuple z.value) ∷ []) w2) (shows (Returned (out_of_tuple a'.passed.value) ∷ []) v2)) (sym k.1) (shows_alike b (Returned (out_of_tuple a'.passed.value) ∷ []) w2 v2 k2.0))
      (λ w3 x' v3 y' k3. calls_alike b d rest w3 v3 k3.0)))

-- ---- over groups over a host

module _ {S : Type 0} (G H : Group) (to : ℕ → ℕ) (e : Renames G H to) (groups : List Group) (h : HostStep S) (alike : MeetsAlike G to (stack groups (hosted h))) (s : S) (d : Nesting) (calls : List Call) where
  abbrev p4 : Ports (StateOf groups S)
  p4 = stack groups (hosted h)

  abbrev StandAlike : World (StateOf groups S) → World (StateOf groups S) → Type 0
  StandAlike w v = Stands to w v

  abbrev Any4 : World (StateOf groups S) → Unit {0} → World (StateOf groups S) → Unit {0} → Type 0
  Any4 w a v b = Unit {0}

  fair4 : Fair p4
  fair4 = stack_fair groups (hosted h) (host_fair h)

  abbrev start : World (StateOf groups S)
  start = first_state (G ∷ groups) s

  at_start : StandAlike start start
  at_start = record { here = λ k. refl; under = refl }

  made4 : (b : ℕ) → Exact b (Eq StandAlike) (are_made d (H ∷ groups) (hosted h) start) (are_made d (G ∷ groups) (hosted h) start)
  made4 b =
      exact_then b (Eq StandAlike) (Eq StandAlike) _ _ _ _ start start (same_below G H to e p4 fair4 alike b (are_made d groups (hosted h)) (are_made_left d groups (hosted h) (host_fair h)) start start at_start)
      (λ w a v b' k. made_alike G H to e p4 fair4 alike b d w v k.0)

  all_alike : (n : ℕ) → Equals n Any4 ((are_made d (H ∷ groups) (hosted h) >> λ _. makes_calls H p4 d calls) start n) ((are_made d (G ∷ groups) (hosted h) >> λ _. makes_calls G p4 d calls) start n)
  all_alike n = exact_then (suc n) (Eq StandAlike) Any4 _ _ _ _ start start (made4 (suc n)) (λ w a v b k. calls_alike G H to e p4 fair4 alike (suc n) d calls w v k.0) n (omega arith)

  same_as : (n : ℕ) → SameAs G H groups h s d calls n
  unfolding runs_calls
  same_as n = record { observed = equals_observed n Any4 _ _ (all_alike n); seen = equals_seen n Any4 _ _ (all_alike n) }

pub over_groups : {S : Type 0} → (h : HostStep S) → SameOverGroups h
over_groups h G H to e A groups s d calls n = same_as G H to e (A ∷ groups) h (λ d' from f passed used. refl) s d calls n

pub over_hosts : {S : Type 0} → (h : HostStep S) → SameOverHosts h
over_hosts h G H to e keeps groups s d calls n =
    same_as G H to e groups h (λ d' from f passed used. ap (λ ty. (stack groups (hosted h)).ask d' from (record { interface = f.interface; function = f.function; ty = ty }) passed) (keeps f used)) s d calls n
