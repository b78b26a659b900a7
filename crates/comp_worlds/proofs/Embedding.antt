-- A group of which each instance stands in another group does the same there.
use Rattle.std.proofs.Common.{◌≡◌, ℕ, zero, suc, ◌+◌, ◌-◌, ◌≤◌, List, [], ◌∷◌, ◌++◌, Option, Some, None, Bool, true, false, map, slice_index, refl, sym, ap, subst, arith}
use Rattle.std.specs.Option.{option_map}
use Rattle.core_memory.specs.Number.{bytes_of}
use Rattle.core_store.specs.State.{State}
use Rattle.core_store.specs.declared.value.CoreValue.{CoreValue}
use Rattle.core_store.specs.declared.value.CoreValue.TheVariants as values
use Rattle.core_store.specs.Words.{words, values_in}
use Rattle.core_store.specs.Config.{Reply, Outcome, Done, Trapped as CoreTrapped, Asks, Spent as CoreSpent, TooDeep as CoreTooDeep}
use Rattle.core_store.specs.Eval.{eval}
use Rattle.core_store.specs.Laws.{Within}
use Rattle.core_store.proofs.Steps.{within}
use Rattle.wit_types.specs.Plain.{Plain, PlainFunc}
use Rattle.wit_types.specs.Layout.{alignment, size}
use Rattle.abi_layout.specs.Functions.{core_params, lowered}
use Rattle.abi_layout.specs.Handles.{renumbered}
use Rattle.abi_layout.specs.Storing.{Step, Ask, Write, Place, Refuse, Lowered}
use Rattle.comp_worlds.specs.Acts.{then_do, Act, ◌>>◌, gives, takes_step, with_more}
use Rattle.comp_worlds.specs.Passing.{Passed, params_tuple, answer_tuple, handles_of, most_params, most_results, spills_over, lower_params, lower_result}
use Rattle.comp_worlds.specs.Groups.{Nesting, deeper, at_depth, store_at, Import, Options, Target, Mine, Theirs, type_of, Func, LoweredFunc, ResourceNew, ResourceDrop, ResourceRep, Owner, Stage, Provides, Makes, Begins, Group, Config, World, Due, Nothing, Served, Below, Answer, Origin, Inside, Ports}
use Rattle.comp_worlds.specs.Locals.{Local, is_open, enter, exit, close, reopen, with_store, lifts, ends_loans, has_no_borrow, adds_handles, has_place, is_granted, writes, base_of, flat_word, makes, reads, removes, provides, makes_module}
use Rattle.comp_worlds.specs.Calls.{with_config, on_end, on, below, Question, core_end, core, store_of, number_if, owns, borrowed, unborrowed, plainly, asks_for, stores, lowers_closed, lowers_params, finds_place, lowers_result, post_returns, answers, during, place_in, leaves, calls, destructs, visits, drops, destructs_own, drops_by, drops_if, performs, goes_on, drives, runs, starts, does, does_all}
use Rattle.comp_worlds.proofs.Closed.{owned}
use Rattle.comp_worlds.specs.Parts.{target_to, func_to, owner_to, stage_to, stages_to, Embeds}
use Rattle.comp_worlds.proofs.Exact.{Equals, equals_before, Exact, exact_less, exact_then, exact_gives, exact_gives_second, exact_step, exact_traps, exact_call, Loose, loose_then, loose_call, loose_more}

-- the two worlds in step, and one answer
abbrev pub Eq : {W V A : Type 0} → (W → V → Type 0) → W → A → V → A → Type 0
Eq R w a v b = R w v × (a ≡ b)

-- what is owed in the one, and in the other
abbrev pub DueTo : (ℕ → ℕ) → (Due → Due → Type 0) → Due → Due → Type 0
DueTo place Fd d Nothing = ⊥
DueTo place Fd d (Served k lifting results) = d ≡ Served (place k) lifting results
DueTo place Fd d (Below t) = Fd d t

abbrev pub Answers_as : {W V : Type 0} → (W → V → Type 0) → (Due → Due → Type 0) → W → Answer → V → Answer → Type 0
Answers_as R Fd w a v b = R w v × (a.passed ≡ b.passed) × Fd a.due b.due

-- the imports to which a target leads are known
abbrev pub LeadsTo : (Import → Type 0) → Target → Type 0
LeadsTo Used (Mine k lifting) = Unit {0}
LeadsTo Used (Theirs f) = Used f

abbrev pub KnownIn : (Import → Type 0) → (ℕ → Type 0) → Option Func → Type 0
KnownIn Used Known None = Unit {0}
KnownIn Used Known (Some (LoweredFunc target options)) = LeadsTo Used target
KnownIn Used Known (Some (ResourceNew r)) = Unit {0}
KnownIn Used Known (Some (ResourceDrop r)) = Known r
KnownIn Used Known (Some (ResourceRep r)) = Unit {0}

-- two worlds in step, and what lies beyond G does the same in both
pub record InStep {S T : Type 0} (G H : Group) (p : Ports S) (q : Ports T) (place : ℕ → ℕ) (import : Import → Target) (R : World S → World T → Type 0) (Fd : Due → Due → Type 0) (Used : Import → Type 0) (Known : ℕ → Type 0) : Type 0 where
  pub here : (k : ℕ) (w : World S) (v : World T) → R w v → w.configs (place k) ≡ v.configs k
  pub put : (k : ℕ) (c : Config ℕ) (w : World S) (v : World T) → R w v → R (with_config w (place k) c) (with_config v k c)
  pub knows : (k n : ℕ) → KnownIn Used Known (G.canons k n)
  pub types : (f : Import) → Used f → type_of (import f) ≡ f.ty
  pub nests : (d : Nesting) (due t : Due) → Fd due t → during d due ≡ during d t
  pub asks : (b : ℕ) (d : Nesting) (from : Origin) (f : Import) (passed : Passed ℕ) (w : World S) (v : World T) → Used f → R w v → Exact b (Answers_as R Fd) (answers H p (runs H p b) d from (import f) passed w) (below (q.ask d from f passed) v)
  pub leaves : (b : ℕ) (d : Nesting) (due t : Due) (w : World S) (v : World T) → Fd due t → R w v → Exact b (Eq R) (leaves H p (runs H p b) d due w) (below (q.leave d t) v)
  pub drops : (b : ℕ) (d : Nesting) (r x : ℕ) (w : World S) (v : World T) → Known r → G.owner r ≡ None → R w v → Exact b (Eq R) (drops H p (runs H p b) d r x (H.owner r) w) (below (q.drop d (G.imported r) x) v)

module _ {S T : Type 0} (G H : Group) (p : Ports S) (q : Ports T) (place : ℕ → ℕ) (import : Import → Target) (R : World S → World T → Type 0) (Fd : Due → Due → Type 0) (Used : Import → Type 0) (Known : ℕ → Type 0) (e : Embeds G H place import) (s : InStep G H p q place import R Fd Used Known) where
  then_eq : {A B C : Type 0} → (b : ℕ) (Q : World S → B → World T → C → Type 0) (x : Act (World S) A) (go : A → Act (World S) B) (y : Act (World T) A) (go' : A → Act (World T) C) (w : World S) (v : World T) → Exact b (Eq R) (x w) (y v) → ((w' : World S) (a : A) (v' : World T) → R w' v' → Exact b Q (go a w') (go' a v')) → Exact b Q ((x >> go) w) ((y >> go') v)
  then_eq b Q x go y go' w v h each = exact_then b (Eq R) Q x go y go' w v h (λ w' a v' a' k. subst (λ z. Exact b Q (go a w') (go' z v')) k.1 (each w' a v' k.0))

  done_eq : {A : Type 0} → (b : ℕ) (a : A) (w : World S) (v : World T) → R w v → Exact b (Eq R) (gives a w) (gives a v)
  done_eq b a w v r = exact_gives b (Eq R) a a w v (r, refl)

  exact_on : {A : Type 0} → (b k : ℕ) (op : Config ℕ → Option (Local ℕ A)) (w : World S) (v : World T) → R w v → Exact b (Eq R) (on (place k) op w) (on k op v)
  unfolding on
  exact_on {A} b k op w v r n lt = subst (λ c. Equals n (Eq R) (on_end w (place k) n (op c)) (on_end v k n (op (v.configs k)))) (sym (s.here k w v r)) (at (op (v.configs k)))
    where
      at : (o : Option (Local ℕ A)) → Equals n (Eq R) (on_end w (place k) n o) (on_end v k n o)
      at None = (refl, refl)
      at (Some l) = (refl, refl, omega arith, (s.put k l.config w v r, refl))

  exact_store : {A B : Type 0} → (b k : ℕ) (Q : World S → A → World T → B → Type 0) (go : State → Act (World S) A) (go' : State → Act (World T) B) (w : World S) (v : World T) → R w v → Exact b Q (go (v.configs k).store w) (go' (v.configs k).store v) → Exact b Q ((store_of (place k) >> go) w) ((store_of k >> go') v)
  unfolding ◌>>◌ store_of
  exact_store b k Q go go' w v r h n lt = equals_before n n Q [] [] _ _ refl (omega arith) (subst (λ c. Equals n Q (go c.store w n) (go' (v.configs k).store v n)) (sym (s.here k w v r)) (h n lt))

  loose_store : {A B : Type 0} → (b k m : ℕ) (Q : World S → A → World T → B → Type 0) (go : State → Act (World S) A) (go' : State → Act (World T) B) (w : World S) (v : World T) → R w v → Loose b m Q (go (v.configs k).store w) (go' (v.configs k).store v) → Loose b m Q ((store_of (place k) >> go) w) ((store_of k >> go') v)
  unfolding ◌>>◌ store_of
  loose_store b k m Q go go' w v r h n lt = equals_before (m + n) (m + n) Q [] [] _ _ refl (omega arith) (subst (λ c. Equals (m + n) Q (go c.store w n) (go' (v.configs k).store v n)) (sym (s.here k w v r)) (h n lt))

  during_to : (d : Nesting) (due t : Due) → DueTo place Fd due t → during d due ≡ during d t
  during_to d due Nothing is = absurd is
  during_to d due (Served k lifting results) is = ap (during d) is
  during_to d due (Below t) is = s.nests d due t is

  type_to : (target : Target) → LeadsTo Used target → type_of (target_to place import target) ≡ type_of target
  type_to (Mine k lifting) used = refl
  type_to (Theirs f) used = s.types f used

  -- core code does the same in both, in less than b steps
  abbrev Running : ℕ → ℕ → ℕ → Type 0
  Running b m m' = (d : Nesting) (k f : ℕ) (args : List CoreValue) (w : World S) (v : World T) → R w v → Exact b (Eq R) (runs H p m d (place k) f args w) (runs G q m' d k f args v)

  module _ (b m m' : ℕ) (le : b ≤ m) (run : Running b m m') where
    exact_asks_for : (d : Nesting) (k : ℕ) (f : Option ℕ) (align len : ℕ) (w : World S) (v : World T) → R w v → Exact b (Eq R) (asks_for H p (runs H p m) d (place k) f align len w) (asks_for G q (runs G q m') d k f align len v)
    exact_asks_for d k None align len w v r = exact_traps b (Eq R) w v
    exact_asks_for d k (Some f) align len w v r = exact_less (suc b) b (Eq R) _ _ (omega arith) (exact_call b d (Eq R) _ _ w v (run (deeper d) k f _ w v r))

    exact_stores : (d : Nesting) (k : ℕ) (options : Options) (target : ℕ) (steps : List Step) (made : List ℕ) (w : World S) (v : World T) → R w v → Exact b (Eq R) (stores H p (runs H p m) d (place k) options target made steps w) (stores G q (runs G q m') d k options target made steps v)
    exact_stores d k options target [] made w v r = done_eq b made w v r
    exact_stores d k options target (Ask align len ∷ steps) made w v r =
        then_eq b (Eq R) _ _ _ _ w v (exact_asks_for d k options.realloc align len w v r)
        (λ w1 results v1 r1.
        then_eq b (Eq R) _ _ _ _ w1 v1 (exact_on b k (is_granted options align len (words results)) w1 v1 r1)
        (λ w2 at v2 r2. exact_stores d k options target steps (made ++ at ∷ []) w2 v2 r2))
    exact_stores d k options target (Write base offset bytes ∷ steps) made w v r =
        then_eq b (Eq R) _ _ _ _ w v (exact_on b k (writes options (base_of target made base + offset) bytes) w v r) (λ w1 x v1 r1. exact_stores d k options target steps made w1 v1 r1)
    exact_stores d k options target (Place base offset request ∷ steps) made w v r =
        then_eq b (Eq R) _ _ _ _ w v (exact_on b k (writes options (base_of target made base + offset) (bytes_of 4 (slice_index made request))) w v r) (λ w1 x v1 r1. exact_stores d k options target steps made w1 v1 r1)
    exact_stores d k options target (Refuse ∷ steps) made w v r = exact_traps b (Eq R) w v

    exact_closed : (d : Nesting) (k : ℕ) (options : Options) (target : ℕ) (l : Lowered) (w : World S) (v : World T) → R w v → Exact b (Eq R) (lowers_closed H p (runs H p m) d (place k) options target l w) (lowers_closed G q (runs G q m') d k options target l v)
    exact_closed d k options target l w v r =
        then_eq b (Eq R) _ _ _ _ w v (exact_on b k close w v r)
        (λ w1 x v1 r1.
        then_eq b (Eq R) _ _ _ _ w1 v1 (exact_stores d k options target l.steps [] w1 v1 r1)
        (λ w2 made v2 r2.
        then_eq b (Eq R) _ _ _ _ w2 v2 (exact_on b k reopen w2 v2 r2)
        (λ w3 y v3 r3. done_eq b (map (flat_word made) l.flats) w3 v3 r3)))

    same_borrows : (k : ℕ) → borrowed H plainly (place k) ≡ borrowed G plainly k
    same_borrows k = λ i r x. number_if ((e.owns_no_more k r) i) x

    exact_params : (d : Nesting) (k : ℕ) (options : Options) (ty : Plain) (passed : Passed ℕ) (w : World S) (v : World T) → R w v → Exact b (Eq R) (lowers_params H p (runs H p m) d (place k) options ty passed w) (lowers_params G q (runs G q m') d k options ty passed v)
    exact_params d k options ty passed w v r =
        subst (λ z. Exact b (Eq R) ((on (place k) (adds_handles z (handles_of ty passed)) >> λ indexes. lowers_closed H p (runs H p m) d (place k) options 0 (lower_params ty (renumbered ty passed.value indexes))) w) (lowers_params G q (runs G q m') d k options ty passed v)) (sym (same_borrows k))
        (then_eq b (Eq R) _ _ _ _ w v (exact_on b k (adds_handles (borrowed G plainly k) (handles_of ty passed)) w v r)
        (λ w1 indexes v1 r1. exact_closed d k options 0 (lower_params ty (renumbered ty passed.value indexes)) w1 v1 r1))

    exact_place : (c : Bool) (k : ℕ) (options : Options) (ty : Plain) (at : ℕ) (w : World S) (v : World T) → R w v → Exact b (Eq R) (finds_place H p (runs H p m) c (place k) options ty at w) (finds_place G q (runs G q m') c k options ty at v)
    exact_place false k options ty at w v r = done_eq b tt w v r
    exact_place true k options ty at w v r = exact_on b k (has_place options (alignment ty) (size ty) at) w v r

    exact_result : (d : Nesting) (k : ℕ) (options : Options) (ty : Plain) (at : ℕ) (passed : Passed ℕ) (w : World S) (v : World T) → R w v → Exact b (Eq R) (lowers_result H p (runs H p m) d (place k) options ty at passed w) (lowers_result G q (runs G q m') d k options ty at passed v)
    exact_result d k options ty at passed w v r =
        then_eq b (Eq R) _ _ _ _ w v (exact_on b k (adds_handles unborrowed (handles_of ty passed)) w v r)
        (λ w1 indexes v1 r1.
        then_eq b (Eq R) _ _ _ _ w1 v1 (exact_place (spills_over most_results ty) k options ty at w1 v1 r1)
        (λ w2 x v2 r2. exact_closed d k options at (lower_result ty (renumbered ty passed.value indexes)) w2 v2 r2))

    exact_posts : (d : Nesting) (k : ℕ) (results : List CoreValue) (post : Option ℕ) (w : World S) (v : World T) → R w v → Exact b (Eq R) (post_returns H p (runs H p m) d (place k) results post w) (post_returns G q (runs G q m') d k results post v)
    exact_posts d k results None w v r = done_eq b tt w v r
    exact_posts d k results (Some f) w v r =
        exact_less (suc b) b (Eq R) _ _ (omega arith)
        (exact_call b d (Eq R) _ _ w v
        (then_eq b (Eq R) _ _ _ _ w v (exact_on b k close w v r)
        (λ w1 x v1 r1.
        then_eq b (Eq R) _ _ _ _ w1 v1 (run (deeper d) k f results w1 v1 r1)
        (λ w2 y v2 r2. exact_on b k reopen w2 v2 r2))))

    pub exact_answers : (d : Nesting) (from : Origin) (target : Target) → LeadsTo Used target → (passed : Passed ℕ) (w : World S) (v : World T) → R w v → Exact b (Answers_as R (DueTo place Fd)) (answers H p (runs H p m) d from (target_to place import target) passed w) (answers G q (runs G q m') d from target passed v)
    exact_answers d from (Mine k lifting) used passed w v r =
        let aty = answer_tuple lifting.ty in
        exact_less (suc b) b (Answers_as R (DueTo place Fd)) _ _ (omega arith)
        (exact_call b d (Answers_as R (DueTo place Fd)) _ _ w v
        (then_eq b (Answers_as R (DueTo place Fd)) _ _ _ _ w v (exact_on b k enter w v r)
        (λ w1 x v1 r1.
        then_eq b (Answers_as R (DueTo place Fd)) _ _ _ _ w1 v1 (exact_params (deeper d) k lifting.options (params_tuple lifting.ty) passed w1 v1 r1)
        (λ w2 args v2 r2.
        then_eq b (Answers_as R (DueTo place Fd)) _ _ _ _ w2 v2 (run (deeper d) k lifting.code (values_in 0 (core_params lifting.ty) args) w2 v2 r2)
        (λ w3 results v3 r3.
        then_eq b (Answers_as R (DueTo place Fd)) _ _ _ _ w3 v3 (exact_on b k (lifts most_results aty lifting.options (words results)) w3 v3 r3)
        (λ w4 l v4 r4.
        then_eq b (Answers_as R (DueTo place Fd)) _ _ _ _ w4 v4 (exact_on b k (has_no_borrow l.loans) w4 v4 r4)
        (λ w5 y v5 r5. exact_gives b (Answers_as R (DueTo place Fd)) _ _ w5 v5 (r5, refl, refl))))))))
    exact_answers d from (Theirs f) used passed w v r =
        exact_gives_second b (Answers_as R Fd) (Answers_as R (DueTo place Fd)) (answers H p (runs H p m) d from (import f) passed) (below (q.ask d from f passed)) (λ a. record { passed = a.passed; due = Below a.due }) w v (λ w' a v' c k. k)
        (exact_less m b (Answers_as R Fd) _ _ le (s.asks m d from f passed w v used r))

    pub exact_leaves : (d : Nesting) (due due' : Due) (w : World S) (v : World T) → DueTo place Fd due due' → R w v → Exact b (Eq R) (leaves H p (runs H p m) d due w) (leaves G q (runs G q m') d due' v)
    exact_leaves d due Nothing w v is r = absurd is
    exact_leaves d due (Below t) w v is r = exact_less m b (Eq R) _ _ le (s.leaves m d due t w v is r)
    exact_leaves d due (Served k lifting results) w v is r =
        subst (λ z. Exact b (Eq R) (leaves H p (runs H p m) d z w) (leaves G q (runs G q m') d (Served k lifting results) v)) (sym is)
        (then_eq b (Eq R) _ _ _ _ w v (exact_posts (deeper d) k results lifting.post w v r) (λ w1 x v1 r1. exact_on b k exit w1 v1 r1))

    -- the rest of a call, by a type for both
    exact_finish : (d : Nesting) (k : ℕ) (ty : PlainFunc) (options : Options) (args loans : List ℕ) (w3 : World S) (a : Answer) (v3 : World T) (a' : Answer) → Answers_as R (DueTo place Fd) w3 a v3 a' → Exact b (Eq R)
        ((on (place k) (ends_loans loans) >> λ _. lowers_result H p (runs H p m) (during d a.due) (place k) options (answer_tuple ty) (place_in ty args) a.passed >> λ results. leaves H p (runs H p m) d a.due >> λ _. gives (values_in 0 (lowered ty).results results)) w3)
        ((on k (ends_loans loans) >> λ _. lowers_result G q (runs G q m') (during d a'.due) k options (answer_tuple ty) (place_in ty args) a'.passed >> λ results. leaves G q (runs G q m') d a'.due >> λ _. gives (values_in 0 (lowered ty).results results)) v3)
    exact_finish d k ty options args loans w3 a v3 a' r3 =
        then_eq b (Eq R) _ _ _ _ w3 v3 (exact_on b k (ends_loans loans) w3 v3 r3.0)
        (λ w4 y v4 r4.
        then_eq b (Eq R) _ _ _ _ w4 v4
        (subst (λ z. Exact b (Eq R) (lowers_result H p (runs H p m) (during d a.due) (place k) options (answer_tuple ty) (place_in ty args) z w4) (lowers_result G q (runs G q m') (during d a'.due) k options (answer_tuple ty) (place_in ty args) a'.passed v4)) (sym r3.1)
        (subst (λ z. Exact b (Eq R) (lowers_result H p (runs H p m) z (place k) options (answer_tuple ty) (place_in ty args) a'.passed w4) (lowers_result G q (runs G q m') (during d a'.due) k options (answer_tuple ty) (place_in ty args) a'.passed v4)) (sym (during_to d a.due a'.due r3.2))
        (exact_result (during d a'.due) k options (answer_tuple ty) (place_in ty args) a'.passed w4 v4 r4)))
        (λ w5 results v5 r5.
        then_eq b (Eq R) _ _ _ _ w5 v5 (exact_leaves d a.due a'.due w5 v5 r3.2 r5)
        (λ w6 z v6 r6. done_eq b (values_in 0 (lowered ty).results results) w6 v6 r6)))

    exact_calls : (d : Nesting) (k : ℕ) (target : Target) → LeadsTo Used target → (options : Options) (args : List ℕ) (w : World S) (v : World T) → R w v → Exact b (Eq R) (calls H p (runs H p m) d (place k) (target_to place import target) options args w) (calls G q (runs G q m') d k target options args v)
    exact_calls d k target used options args w v r =
        subst (λ ty. Exact b (Eq R)
        ((on (place k) is_open >> λ _. on (place k) (lifts most_params (params_tuple ty) options args) >> λ l. answers H p (runs H p m) d Inside (target_to place import target) l.passed >> λ answer. on (place k) (ends_loans l.loans) >> λ _. lowers_result H p (runs H p m) (during d answer.due) (place k) options (answer_tuple ty) (place_in ty args) answer.passed >> λ results. leaves H p (runs H p m) d answer.due >> λ _. gives (values_in 0 (lowered ty).results results)) w)
        (calls G q (runs G q m') d k target options args v)) (sym (type_to target used))
        (then_eq b (Eq R) _ _ _ _ w v (exact_on b k is_open w v r)
        (λ w1 x v1 r1.
        then_eq b (Eq R) _ _ _ _ w1 v1 (exact_on b k (lifts most_params (params_tuple (type_of target)) options args) w1 v1 r1)
        (λ w2 l v2 r2.
        exact_then b (Answers_as R (DueTo place Fd)) (Eq R) _ _ _ _ w2 v2 (exact_answers d Inside target used l.passed w2 v2 r2)
        (λ w3 a v3 a' r3. exact_finish d k (type_of target) options args l.loans w3 a v3 a' r3))))

    exact_destructs : (d : Nesting) (k x : ℕ) (post : Option ℕ) (w : World S) (v : World T) → R w v → Exact b (Eq R) (destructs H p (runs H p m) d (place k) x post w) (destructs G q (runs G q m') d k x post v)
    exact_destructs d k x None w v r = done_eq b tt w v r
    exact_destructs d k x (Some f) w v r =
        exact_less (suc b) b (Eq R) _ _ (omega arith)
        (exact_call b d (Eq R) _ _ w v (then_eq b (Eq R) _ _ _ _ w v (run (deeper d) k f (values.I32 x ∷ []) w v r) (λ w1 y v1 r1. done_eq b tt w1 v1 r1)))

    exact_visits : (d : Nesting) (o : Owner) (x : ℕ) (w : World S) (v : World T) → R w v → Exact b (Eq R) (visits H p (runs H p m) d (owner_to place o) x w) (visits G q (runs G q m') d o x v)
    exact_visits d o x w v r =
        then_eq b (Eq R) _ _ _ _ w v (exact_on b o.instance enter w v r)
        (λ w1 y v1 r1.
        then_eq b (Eq R) _ _ _ _ w1 v1 (exact_destructs d o.instance x o.destructor w1 v1 r1)
        (λ w2 z v2 r2. exact_on b o.instance exit w2 v2 r2))

    pub exact_drops : (d : Nesting) (r' x : ℕ) (o : Option Owner) → G.owner r' ≡ o → Known r' → (w : World S) (v : World T) → R w v → Exact b (Eq R) (drops H p (runs H p m) d r' x (H.owner r') w) (drops G q (runs G q m') d r' x o v)
    exact_drops d r' x None is known w v r = exact_less m b (Eq R) _ _ le (s.drops m d r' x w v known is r)
    exact_drops d r' x (Some o) is known w v r =
        subst (λ z. Exact b (Eq R) (drops H p (runs H p m) d r' x z w) (visits G q (runs G q m') d o x v)) (sym (e.owner r' o is)) (exact_visits d o x w v r)

    exact_drops_by : (d : Nesting) (k r' x : ℕ) (o : Bool) → owns G k r' ≡ o → Known r' → (w : World S) (v : World T) → R w v → Exact b (Eq R) (drops_by H p (runs H p m) d (place k) r' x o w) (drops_by G q (runs G q m') d k r' x o v)
    exact_drops_by d k r' x true is known w v r =
        let own = owned (G.owner r') k is in
        subst (λ z. Exact b (Eq R) (destructs_own H p (runs H p m) d (place k) x z w) (destructs_own G q (runs G q m') d k x (G.owner r') v)) (sym (e.owner r' own.0 own.1))
        (subst (λ z. Exact b (Eq R) (destructs_own H p (runs H p m) d (place k) x (Some (owner_to place own.0)) w) (destructs_own G q (runs G q m') d k x z v)) (sym own.1)
        (exact_destructs d k x own.0.destructor w v r))
    exact_drops_by d k r' x false is known w v r = exact_drops d r' x (G.owner r') refl known w v r

    exact_drops_if : (d : Nesting) (k r' : ℕ) (o : Option ℕ) → Known r' → (w : World S) (v : World T) → R w v → Exact b (Eq R) (drops_if H p (runs H p m) d (place k) r' o w) (drops_if G q (runs G q m') d k r' o v)
    exact_drops_if d k r' None known w v r = done_eq b [] w v r
    exact_drops_if d k r' (Some x) known w v r =
        subst (λ o. Exact {A = List CoreValue} {B = List CoreValue} b (Eq R) ((drops_by H p (runs H p m) d (place k) r' x o >> λ _. gives []) w) ((drops_by G q (runs G q m') d k r' x (owns G k r') >> λ _. gives []) v)) (sym (e.owns_no_more k r'))
        (then_eq b (Eq R) _ _ _ _ w v (exact_drops_by d k r' x (owns G k r') refl known w v r) (λ w1 y v1 r1. done_eq b [] w1 v1 r1))

    exact_performs : (d : Nesting) (k : ℕ) (args : List ℕ) (f : Option Func) → KnownIn Used Known f → (w : World S) (v : World T) → R w v → Exact b (Eq R) (performs H p (runs H p m) d (place k) args (option_map (func_to place import) f) w) (performs G q (runs G q m') d k args f v)
    exact_performs d k args None known w v r = exact_traps b (Eq R) w v
    exact_performs d k args (Some (LoweredFunc target options)) known w v r = exact_calls d k target known options args w v r
    exact_performs d k args (Some (ResourceNew r')) known w v r =
        subst (λ o. Exact b (Eq R) ((on (place k) (makes plainly o r' args) >> λ ws. gives (map values.I32 ws)) w) ((on k (makes plainly (owns G k r') r' args) >> λ ws. gives (map values.I32 ws)) v)) (sym (e.owns_no_more k r'))
        (then_eq b (Eq R) _ _ _ _ w v (exact_on b k (makes plainly (owns G k r') r' args) w v r) (λ w1 ws v1 r1. done_eq b (map values.I32 ws) w1 v1 r1))
    exact_performs d k args (Some (ResourceRep r')) known w v r =
        subst (λ o. Exact b (Eq R) ((on (place k) (reads plainly o r' args) >> λ ws. gives (map values.I32 ws)) w) ((on k (reads plainly (owns G k r') r' args) >> λ ws. gives (map values.I32 ws)) v)) (sym (e.owns_no_more k r'))
        (then_eq b (Eq R) _ _ _ _ w v (exact_on b k (reads plainly (owns G k r') r' args) w v r) (λ w1 ws v1 r1. done_eq b (map values.I32 ws) w1 v1 r1))
    exact_performs d k args (Some (ResourceDrop r')) known w v r =
        then_eq b (Eq R) _ _ _ _ w v (exact_on b k (removes r' args) w v r) (λ w1 o v1 r1. exact_drops_if d k r' o known w1 v1 r1)

  -- core code goes on from its end or its next question
  module _ (b m m' : ℕ) (le : b ≤ m) (le' : b ≤ m') (run : Running b m m') (d : Nesting) (k f : ℕ) (args : List CoreValue) (store : State) (replies : List Reply) where
    Again : Type 0
    Again = (replies' : List Reply) (w : World S) (v : World T) → R w v → Exact b (Eq R) (drives H p m d (place k) f args store replies' w) (drives G q m' d k f args store replies' v)

    asks_on : Again → (number : ℕ) (asked : List CoreValue) (now n l : ℕ) → l ≤ n → n ≤ b → (w : World S) (v : World T) → R w v →
        Equals n (Eq R) (goes_on H p (runs H p m) (λ reply. drives H p m d (place k) f args store (replies ++ reply ∷ [])) d (place k) (Question number asked now (n - l)) w l) (goes_on G q (runs G q m') (λ reply. drives G q m' d k f args store (replies ++ reply ∷ [])) d k (Question number asked now (n - l)) v l)
    unfolding Again
    asks_on again number asked now n l less most w v r =
        subst (λ i. Equals i (Eq R) (goes_on H p (runs H p m) (λ reply. drives H p m d (place k) f args store (replies ++ reply ∷ [])) d (place k) (Question number asked now (n - l)) w l) (goes_on G q (runs G q m') (λ reply. drives G q m' d k f args store (replies ++ reply ∷ [])) d k (Question number asked now (n - l)) v l)) (omega arith)
        (loose_call l (n - l) (at_depth d now) (Eq R) _ _ w v
        (loose_then l (n - l) (Eq R) (Eq R) _ _ _ _ w v
        (exact_less b l (Eq R) _ _ (omega arith)
        (subst (λ func. Exact b (Eq R) (performs H p (runs H p m) (deeper (at_depth d now)) (place k) (words asked) func w) (performs G q (runs G q m') (deeper (at_depth d now)) k (words asked) (G.canons k number) v)) (sym (e.canons k number))
        (exact_performs b m m' le run (deeper (at_depth d now)) k (words asked) (G.canons k number) (s.knows k number) w v r)))
        (λ w1 results v1 results' r1.
        subst (λ z. Loose l (n - l) (Eq R) ((store_of (place k) >> λ store'. with_more (n - l) (drives H p m d (place k) f args store (replies ++ record { results = results; store = record (store_at d store') { nesting = now } } ∷ []))) w1) ((store_of k >> λ store'. with_more (n - l) (drives G q m' d k f args store (replies ++ record { results = z; store = record (store_at d store') { nesting = now } } ∷ []))) v1)) r1.1
        (loose_store l k (n - l) (Eq R) _ _ w1 v1 r1.0
        (loose_more l b (n - l) (Eq R) _ _ w1 v1 (omega arith) (again (replies ++ record { results = results; store = record (store_at d (v1.configs k).store) { nesting = now } } ∷ []) w1 v1 r1.0)))))
        l (omega arith))

    -- core code runs, and then
    core_on : Again → (n : ℕ) → n ≤ b → (w : World S) (v : World T) → R w v → Equals n (Eq R) (drives H p (suc m) d (place k) f args store replies w n) (drives G q (suc m') d k f args store replies v n)
    unfolding ◌>>◌ core gives
    core_on again n most w v r = at (eval store f args replies n) (within store f args replies n)
      where
        put : (c : State) → R (with_config w (place k) (with_store (w.configs (place k)) c)) (with_config v k (with_store (v.configs k) c))
        put c = subst (λ z. R (with_config w (place k) (with_store z c)) (with_config v k (with_store (v.configs k) c))) (sym (s.here k w v r)) (s.put k (with_store (v.configs k) c) w v r)

        at : (o : Outcome) → Within n o → Equals n (Eq R) (then_do (core_end w (place k) n o) (λ pause. goes_on H p (runs H p m) (λ reply. drives H p m d (place k) f args store (replies ++ reply ∷ [])) d (place k) pause)) (then_do (core_end v k n o) (λ pause. goes_on G q (runs G q m') (λ reply. drives G q m' d k f args store (replies ++ reply ∷ [])) d k pause))
        at (Done results c l) less = (refl, refl, less, (put c, refl))
        at CoreTrapped less = (refl, refl)
        at (Asks number asked c l) less = equals_before n n (Eq R) [] [] _ _ refl (omega arith) (asks_on again number asked c.nesting n l less most _ _ (put c))
        at CoreSpent less = refl
        at CoreTooDeep less = (refl, refl)

  -- core code from its beginning
  exact_drives : (b m m' : ℕ) → b ≤ m → b ≤ m' → (d : Nesting) (k f : ℕ) (args : List CoreValue) (store : State) (replies : List Reply) (w : World S) (v : World T) → R w v → Exact b (Eq R) (drives H p m d (place k) f args store replies w) (drives G q m' d k f args store replies v)
  unfolding Again
  exact_drives zero m m' le le' d k f args store replies w v r = λ n lt. absurd (omega arith)
  exact_drives (suc b) zero m' le le' d k f args store replies w v r = λ n lt. absurd (omega arith)
  exact_drives (suc b) (suc m) zero le le' d k f args store replies w v r = λ n lt. absurd (omega arith)
  exact_drives (suc b) (suc m) (suc m') le le' d k f args store replies w v r = λ n lt.
      core_on b m m' (omega arith) (omega arith)
      (λ d' k' f' args' w' v' r'. exact_store b k' (Eq R) _ _ w' v' r' (exact_drives b m m' (omega arith) (omega arith) d' k' f' args' (store_at d' (v'.configs k').store) [] w' v' r'))
      d k f args store replies
      (λ replies' w' v' r'. exact_drives b m m' (omega arith) (omega arith) d k f args store replies' w' v' r') n (omega arith) w v r

  pub exact_runs : (b m m' : ℕ) → b ≤ m → b ≤ m' → Running b m m'
  exact_runs b m m' le le' d k f args w v r = exact_store b k (Eq R) _ _ w v r (exact_drives b m m' le le' d k f args (store_at d (v.configs k).store) [] w v r)

  -- ---- the making

  exact_starts : (b m m' : ℕ) → b ≤ m → b ≤ m' → (d : Nesting) (k : ℕ) (start : Option ℕ) (w : World S) (v : World T) → R w v → Exact b (Eq R) (starts H p (runs H p m) d (place k) start w) (starts G q (runs G q m') d k start v)
  exact_starts b m m' le le' d k None w v r = done_eq b tt w v r
  exact_starts b m m' le le' d k (Some f) w v r = then_eq b (Eq R) _ _ _ _ w v (exact_runs b m m' le le' d k f [] w v r) (λ w1 x v1 r1. done_eq b tt w1 v1 r1)

  one_step : (b : ℕ) (w : World S) (v : World T) → R w v → Exact b (Eq R) (takes_step w) (takes_step v)
  unfolding takes_step
  one_step b w v r zero lt = refl
  one_step b w v r (suc n) lt = (refl, refl, omega arith, (r, refl))

  exact_does : (b m m' : ℕ) → b ≤ m → b ≤ m' → (d : Nesting) (stage : Stage) (w : World S) (v : World T) → R w v → Exact b (Eq R) (does H p (runs H p m) d (stage_to place stage) w) (does G q (runs G q m') d stage v)
  exact_does b m m' le le' d (Provides k ty number) w v r = exact_on b k (provides ty number) w v r
  exact_does b m m' le le' d (Makes k make start) w v r =
      exact_less (suc b) b (Eq R) _ _ (omega arith)
      (exact_step b (Eq R) _ _ w v
      (then_eq b (Eq R) _ _ _ _ w v (exact_on b k (makes_module make) w v r) (λ w1 x v1 r1. exact_starts b m m' le le' d k start w1 v1 r1)))
  exact_does b m m' le le' d Begins w v r = one_step b w v r

  pub exact_all : (b m m' : ℕ) → b ≤ m → b ≤ m' → (d : Nesting) (list : List Stage) (w : World S) (v : World T) → R w v → Exact b (Eq R) (does_all H p (runs H p m) d (stages_to place list) w) (does_all G q (runs G q m') d list v)
  exact_all b m m' le le' d [] w v r = done_eq b tt w v r
  exact_all b m m' le le' d (stage ∷ rest) w v r =
      then_eq b (Eq R) _ _ _ _ w v (exact_does b m m' le le' d stage w v r) (λ w1 x v1 r1. exact_all b m m' le le' d rest w1 v1 r1)
