-- By two ways to run core code that do the same in less than b steps, a group does the same.
use Rattle.std.proofs.Common.{ℕ, ◌+◌, ◌-◌, ◌≤◌, List, [], ◌∷◌, ◌++◌, Option, Some, None, Bool, true, false, map, slice_index, refl, arith}
use Rattle.core_memory.specs.Number.{bytes_of}
use Rattle.core_store.specs.declared.value.CoreValue.{CoreValue}
use Rattle.core_store.specs.declared.value.CoreValue.TheVariants as values
use Rattle.core_store.specs.Words.{words, values_in}
use Rattle.core_store.specs.Config.{Reply, Outcome, Done, Trapped as CoreTrapped, Asks, Spent as CoreSpent, TooDeep as CoreTooDeep}
use Rattle.core_store.specs.Laws.{Within}
use Rattle.wit_types.specs.Plain.{Plain}
use Rattle.wit_types.specs.Layout.{alignment, size}
use Rattle.abi_layout.specs.Functions.{core_params, lowered}
use Rattle.abi_layout.specs.Handles.{renumbered}
use Rattle.abi_layout.specs.Storing.{Step, Ask, Write, Place, Refuse, Lowered}
use Rattle.comp_worlds.specs.Acts.{then_do, Act, ◌>>◌, gives, with_more}
use Rattle.comp_worlds.specs.Passing.{Passed, params_tuple, answer_tuple, handles_of, most_params, most_results, spills_over, lower_params, lower_result}
use Rattle.comp_worlds.specs.Groups.{Nesting, deeper, at_depth, store_at, Options, Target, Mine, Theirs, type_of, Func, LoweredFunc, ResourceNew, ResourceDrop, ResourceRep, Owner, Stage, Provides, Makes, Begins, Group, World, Due, Nothing, Served, Below, Origin, Inside, Ports}
use Rattle.comp_worlds.specs.Locals.{is_open, enter, exit, close, reopen, with_store, lifts, ends_loans, has_no_borrow, adds_handles, has_place, is_granted, writes, base_of, flat_word, makes, reads, removes, provides, makes_module}
use Rattle.comp_worlds.specs.Calls.{with_config, Question, core_end, store_of, Run, owns, borrowed, unborrowed, plainly, as_words, asks_for, stores, lowers_closed, lowers_params, finds_place, lowers_result, post_returns, answers, during, place_in, leaves, calls, destructs, visits, drops, destructs_own, drops_by, drops_if, performs, goes_on, answers_if, drops_given, starts, does, does_all}
use Rattle.comp_worlds.proofs.Fair.{Fair}
use Rattle.comp_frames.proofs.Matching.{Matches, Same, left_less, matches_seen, matches_then, same_then, same_gives, same_traps, same_step, same_on, same_below, matches_call, same_call}

abbrev pub Agrees : {S : Type 0} → ℕ → Run S → Run S → Type 0
Agrees b run run' = (d : Nesting) (k f : ℕ) (args : List CoreValue) → Same b (run d k f args) (run' d k f args)

module _ {S : Type 0} (G : Group) (p : Ports S) (fair : Fair p) (b : ℕ) (run run' : Run S) (agrees : Agrees b run run') where
  same_asks_for : (d : Nesting) (k : ℕ) (f : Option ℕ) (align len : ℕ) → Same b (asks_for G p run d k f align len) (asks_for G p run' d k f align len)
  same_asks_for d k None align len = same_traps b
  same_asks_for d k (Some f) align len = same_call b d _ _ (agrees (deeper d) k f _)

  pub same_stores : (d : Nesting) (k : ℕ) (options : Options) (target : ℕ) (made : List ℕ) (steps : List Step) → Same b (stores G p run d k options target made steps) (stores G p run' d k options target made steps)
  same_stores d k options target made [] = same_gives b made
  same_stores d k options target made (Ask align len ∷ steps) =
      same_then b _ _ _ _ (same_asks_for d k options.realloc align len)
      (λ results.
      same_then b _ _ _ _ (same_on b k (is_granted options align len (words results)))
      (λ at. same_stores d k options target (made ++ at ∷ []) steps))
  same_stores d k options target made (Write base offset bytes ∷ steps) =
      same_then b _ _ _ _ (same_on b k (writes options (base_of target made base + offset) bytes)) (λ _. same_stores d k options target made steps)
  same_stores d k options target made (Place base offset request ∷ steps) =
      same_then b _ _ _ _ (same_on b k (writes options (base_of target made base + offset) (bytes_of 4 (slice_index made request)))) (λ _. same_stores d k options target made steps)
  same_stores d k options target made (Refuse ∷ steps) = same_traps b

  pub same_closed : (d : Nesting) (k : ℕ) (options : Options) (target : ℕ) (l : Lowered) → Same b (lowers_closed G p run d k options target l) (lowers_closed G p run' d k options target l)
  same_closed d k options target l =
      same_then b _ _ _ _ (same_on b k close)
      (λ _.
      same_then b _ _ _ _ (same_stores d k options target [] l.steps)
      (λ made.
      same_then b _ _ _ _ (same_on b k reopen)
      (λ _. same_gives b (map (flat_word made) l.flats))))

  pub same_params : (d : Nesting) (k : ℕ) (options : Options) (ty : Plain) (passed : Passed ℕ) → Same b (lowers_params G p run d k options ty passed) (lowers_params G p run' d k options ty passed)
  same_params d k options ty passed =
      same_then b _ _ _ _ (same_on b k (adds_handles (borrowed G plainly k) (handles_of ty passed)))
      (λ indexes. same_closed d k options 0 (lower_params ty (renumbered ty passed.value indexes)))

  same_place : (c : Bool) (k : ℕ) (options : Options) (ty : Plain) (at : ℕ) → Same b (finds_place G p run c k options ty at) (finds_place G p run' c k options ty at)
  same_place false k options ty at = same_gives b tt
  same_place true k options ty at = same_on b k (has_place options (alignment ty) (size ty) at)

  pub same_result : (d : Nesting) (k : ℕ) (options : Options) (ty : Plain) (at : ℕ) (passed : Passed ℕ) → Same b (lowers_result G p run d k options ty at passed) (lowers_result G p run' d k options ty at passed)
  same_result d k options ty at passed =
      same_then b _ _ _ _ (same_on b k (adds_handles unborrowed (handles_of ty passed)))
      (λ indexes.
      same_then b _ _ _ _ (same_place (spills_over most_results ty) k options ty at)
      (λ _. same_closed d k options at (lower_result ty (renumbered ty passed.value indexes))))

  pub same_posts : (d : Nesting) (k : ℕ) (results : List CoreValue) (post : Option ℕ) → Same b (post_returns G p run d k results post) (post_returns G p run' d k results post)
  same_posts d k results None = same_gives b tt
  same_posts d k results (Some f) =
      same_call b d _ _
      (same_then b _ _ _ _ (same_on b k close)
      (λ _.
      same_then b _ _ _ _ (agrees (deeper d) k f results)
      (λ _. same_on b k reopen)))

  pub same_answers : (d : Nesting) (from : Origin) (target : Target) (passed : Passed ℕ) → Same b (answers G p run d from target passed) (answers G p run' d from target passed)
  same_answers d from (Theirs import) passed =
      same_then b _ _ _ _ (same_below b (p.ask d from import passed) (fair.asks d from import passed)) (λ a. same_gives b _)
  same_answers d from (Mine k lifting) passed =
      same_call b d _ _
      (same_then b _ _ _ _ (same_on b k enter)
      (λ _.
      same_then b _ _ _ _ (same_params (deeper d) k lifting.options (params_tuple lifting.ty) passed)
      (λ args.
      same_then b _ _ _ _ (agrees (deeper d) k lifting.code (values_in 0 (core_params lifting.ty) args))
      (λ results.
      same_then b _ _ _ _ (same_on b k (lifts most_results (answer_tuple lifting.ty) lifting.options (words results)))
      (λ l.
      same_then b _ _ _ _ (same_on b k (has_no_borrow l.loans))
      (λ _. same_gives b _))))))

  pub same_leaves : (d : Nesting) (due : Due) → Same b (leaves G p run d due) (leaves G p run' d due)
  same_leaves d Nothing = same_gives b tt
  same_leaves d (Below due) = same_below b (p.leave d due) (fair.leaves d due)
  same_leaves d (Served k lifting results) = same_then b _ _ _ _ (same_posts (deeper d) k results lifting.post) (λ _. same_on b k exit)

  pub same_calls : (d : Nesting) (k : ℕ) (target : Target) (options : Options) (args : List ℕ) → Same b (calls G p run d k target options args) (calls G p run' d k target options args)
  same_calls d k target options args =
      same_then b _ _ _ _ (same_on b k is_open)
      (λ _.
      same_then b _ _ _ _ (same_on b k (lifts most_params (params_tuple (type_of target)) options args))
      (λ l.
      same_then b _ _ _ _ (same_answers d Inside target l.passed)
      (λ answer.
      same_then b _ _ _ _ (same_on b k (ends_loans l.loans))
      (λ _.
      same_then b _ _ _ _ (same_result (during d answer.due) k options (answer_tuple (type_of target)) (place_in (type_of target) args) answer.passed)
      (λ results.
      same_then b _ _ _ _ (same_leaves d answer.due)
      (λ _. same_gives b (values_in 0 (lowered (type_of target)).results results)))))))

  pub same_destructs : (d : Nesting) (k x : ℕ) (f : Option ℕ) → Same b (destructs G p run d k x f) (destructs G p run' d k x f)
  same_destructs d k x None = same_gives b tt
  same_destructs d k x (Some f) = same_call b d _ _ (same_then b _ _ _ _ (agrees (deeper d) k f (values.I32 x ∷ [])) (λ _. same_gives b tt))

  same_visits : (d : Nesting) (o : Owner) (x : ℕ) → Same b (visits G p run d o x) (visits G p run' d o x)
  same_visits d o x =
      same_then b _ _ _ _ (same_on b o.instance enter)
      (λ _.
      same_then b _ _ _ _ (same_destructs d o.instance x o.destructor)
      (λ _. same_on b o.instance exit))

  pub same_drops : (d : Nesting) (r x : ℕ) (o : Option Owner) → Same b (drops G p run d r x o) (drops G p run' d r x o)
  same_drops d r x None = same_below b (p.drop d (G.imported r) x) (fair.drops d (G.imported r) x)
  same_drops d r x (Some o) = same_visits d o x

  same_own : (d : Nesting) (k x : ℕ) (o : Option Owner) → Same b (destructs_own G p run d k x o) (destructs_own G p run' d k x o)
  same_own d k x None = same_gives b tt
  same_own d k x (Some o) = same_destructs d k x o.destructor

  same_drops_by : (d : Nesting) (k r x : ℕ) (own : Bool) → Same b (drops_by G p run d k r x own) (drops_by G p run' d k r x own)
  same_drops_by d k r x true = same_own d k x (G.owner r)
  same_drops_by d k r x false = same_drops d r x (G.owner r)

  same_drops_if : (d : Nesting) (k r : ℕ) (o : Option ℕ) → Same b (drops_if G p run d k r o) (drops_if G p run' d k r o)
  same_drops_if d k r None = same_gives b []
  same_drops_if d k r (Some x) = same_then b _ _ _ _ (same_drops_by d k r x (owns G k r)) (λ _. same_gives b [])

  pub same_performs : (d : Nesting) (k : ℕ) (args : List ℕ) (f : Option Func) → Same b (performs G p run d k args f) (performs G p run' d k args f)
  same_performs d k args None = same_traps b
  same_performs d k args (Some (LoweredFunc target options)) = same_calls d k target options args
  same_performs d k args (Some (ResourceNew r)) = same_then b _ _ _ _ (same_on b k (makes plainly (owns G k r) r args)) (λ ws. same_gives b (as_words ws))
  same_performs d k args (Some (ResourceRep r)) = same_then b _ _ _ _ (same_on b k (reads plainly (owns G k r) r args)) (λ ws. same_gives b (as_words ws))
  same_performs d k args (Some (ResourceDrop r)) = same_then b _ _ _ _ (same_on b k (removes r args)) (λ o. same_drops_if d k r o)

  pub same_answers_if : (d : Nesting) (from : Origin) (target : Option Target) (passed : Passed ℕ) → Same b (answers_if G p run d from target passed) (answers_if G p run' d from target passed)
  same_answers_if d from None passed = same_traps b
  same_answers_if d from (Some target) passed = same_answers d from target passed

  pub same_drops_given : (d : Nesting) (x : ℕ) (r : Option ℕ) → Same b (drops_given G p run d x r) (drops_given G p run' d x r)
  same_drops_given d x None = same_traps b
  same_drops_given d x (Some r) = same_drops d r x (G.owner r)

  same_starts : (d : Nesting) (k : ℕ) (start : Option ℕ) → Same b (starts G p run d k start) (starts G p run' d k start)
  same_starts d k None = same_gives b tt
  same_starts d k (Some f) = same_then b _ _ _ _ (agrees d k f []) (λ _. same_gives b tt)

  same_does : (d : Nesting) (stage : Stage) → Same b (does G p run d stage) (does G p run' d stage)
  same_does d (Provides k ty number) = same_on b k (provides ty number)
  same_does d (Makes k make start) =
      same_then b _ _ _ _ (same_step b)
      (λ _.
      same_then b _ _ _ _ (same_on b k (makes_module make))
      (λ _. same_starts d k start))
  same_does d Begins = same_step b

  pub same_all : (d : Nesting) (list : List Stage) → Same b (does_all G p run d list) (does_all G p run' d list)
  same_all d [] = same_gives b tt
  same_all d (stage ∷ rest) = same_then b _ _ _ _ (same_does d stage) (λ _. same_all d rest)

  -- core code goes on from its end or its next question
  module _ (again again' : Reply → Act (World S) (List CoreValue)) (d : Nesting) (k : ℕ) (each : (reply : Reply) → Same b (again reply) (again' reply)) where
    matches_asked : (number : ℕ) (args : List CoreValue) (now n l : ℕ) → l ≤ n → n ≤ b → (w : World S) →
        Matches n (goes_on G p run again d k (Question number args now (n - l)) w l) (goes_on G p run' again' d k (Question number args now (n - l)) w l)
    unfolding ◌>>◌ store_of with_more
    matches_asked number args now n l less most w =
        matches_call n l (at_depth d now) _ _ w
        (λ i lt.
        matches_then n i _ _ _ _ (same_performs (deeper (at_depth d now)) k (words args) (G.canons k number) w i (omega arith))
        (λ results w' j le.
        let reply : Reply = record { results = results; store = record (store_at d (w'.configs k).store) { nesting = now } } in
        let m : ℕ = n - l + j in
        let h = each reply w' m (omega arith) in
        matches_seen n [] (again reply w' m) (again' reply w' m) (h.0, left_less m n (again reply w' m) (omega arith) h.1)))

    pub matches_pause : (n : ℕ) (o : Outcome) → n ≤ b → Within n o → (w : World S) → Matches n (then_do (core_end w k n o) (goes_on G p run again d k)) (then_do (core_end w k n o) (goes_on G p run' again' d k))
    unfolding gives
    matches_pause n (Done results c l) most less w = (refl, less)
    matches_pause n CoreTrapped most less w = (refl, tt)
    matches_pause n (Asks number args c l) most less w = matches_seen n [] _ _ (matches_asked number args c.nesting n l less most (with_config w k (with_store (w.configs k) c)))
    matches_pause n CoreSpent most less w = (refl, tt)
    matches_pause n CoreTooDeep most less w = (refl, tt)
