-- Canonical calls leave each store as many items, where core code does.
use Rattle.std.proofs.Common.{ℕ, ◌+◌, ◌++◌, List, [], ◌∷◌, Option, Some, None, Bool, true, false, map}
use Rattle.std.specs.Prelude.{slice_index}
use Rattle.core_memory.specs.Number.{bytes_of}
use Rattle.core_store.specs.declared.value.CoreValue.{CoreValue}
use Rattle.core_store.specs.declared.value.CoreValue.TheVariants as values
use Rattle.core_store.specs.Words.{words, values_in}
use Rattle.wit_types.specs.Plain.{Plain}
use Rattle.wit_types.specs.Layout.{alignment, size}
use Rattle.abi_layout.specs.Functions.{lowered, core_params}
use Rattle.abi_layout.specs.Storing.{Step, Ask, Write, Place, Refuse, Lowered}
use Rattle.abi_layout.specs.Handles.{renumbered}
use Rattle.comp_worlds.specs.Passing.{Passed, params_tuple, answer_tuple, handles_of, most_params, most_results, spills_over, lower_params, lower_result}
use Rattle.comp_worlds.specs.Groups.{Nesting, deeper, Options, Target, Mine, Theirs, type_of, Func, LoweredFunc, ResourceNew, ResourceDrop, ResourceRep, Owner, Group, Due, Nothing, Served, Below, Answer, Origin, Inside, Ports}
use Rattle.comp_worlds.specs.Locals.{is_open, enter, exit, close, reopen, lifts, ends_loans, has_no_borrow, adds_handles, has_place, is_granted, writes, base_of, flat_word, makes, reads, removes}
use Rattle.comp_worlds.specs.Calls.{on, below, begins_call, Run, owns, borrowed, unborrowed, plainly, during, place_in, as_words, asks_for, stores, lowers_closed, lowers_params, finds_place, lowers_result, post_returns, answers, leaves, calls, destructs, drops, destructs_own, drops_by, drops_if, performs, answers_if}
use Rattle.comp_joins.proofs.Acts.{Keeps, then_keeps, gives_keeps, traps_keeps, begins_keeps, below_keeps, on_keeps}
use Rattle.comp_joins.proofs.Locals.{open_kept, enter_kept, exit_kept, close_kept, reopen_kept, lifts_kept, ends_kept, no_borrow_kept, adds_kept, place_kept, granted_kept, writes_kept, makes_kept, reads_kept, removes_kept}

-- core code does
abbrev pub RunKeeps : {S : Type 0} → Run S → Type 0
RunKeeps run = (d : Nesting) (k f : ℕ) (args : List CoreValue) → Keeps (run d k f args)

module _ {S : Type 0} (G : Group) (p : Ports S) (run : Run S) (runs : RunKeeps run) where
  asks_keeps : (d : Nesting) (k : ℕ) (o : Option ℕ) (align len : ℕ) → Keeps (asks_for G p run d k o align len)
  asks_keeps d k None align len = traps_keeps (List CoreValue)
  asks_keeps d k (Some f) align len = then_keeps (begins_call d) _ (begins_keeps d) (λ a. runs (deeper d) k f _)

  stores_keep : (d : Nesting) (k : ℕ) (options : Options) (target : ℕ) (answers : List ℕ) (steps : List Step) → Keeps (stores G p run d k options target answers steps)
  stores_keep d k options target answers [] = gives_keeps answers
  stores_keep d k options target answers (Ask align len ∷ steps) =
      then_keeps (asks_for G p run d k options.realloc align len) _ (asks_keeps d k options.realloc align len)
      (λ results. then_keeps (on k (is_granted options align len (words results))) _ (on_keeps k (is_granted options align len (words results)) (granted_kept options align len (words results))) (λ at. stores_keep d k options target (answers ++ at ∷ []) steps))
  stores_keep d k options target answers (Write base offset bytes ∷ steps) =
      then_keeps (on k (writes options (base_of target answers base + offset) bytes)) _ (on_keeps k (writes options (base_of target answers base + offset) bytes) (writes_kept options (base_of target answers base + offset) bytes)) (λ a. stores_keep d k options target answers steps)
  stores_keep d k options target answers (Place base offset request ∷ steps) =
      then_keeps (on k (writes options (base_of target answers base + offset) (bytes_of 4 (slice_index answers request)))) _
      (on_keeps k (writes options (base_of target answers base + offset) (bytes_of 4 (slice_index answers request))) (writes_kept options (base_of target answers base + offset) (bytes_of 4 (slice_index answers request)))) (λ a. stores_keep d k options target answers steps)
  stores_keep d k options target answers (Refuse ∷ steps) = traps_keeps (List ℕ)

  closed_keeps : (d : Nesting) (k : ℕ) (options : Options) (target : ℕ) (l : Lowered) → Keeps (lowers_closed G p run d k options target l)
  closed_keeps d k options target l =
      then_keeps (on k close) _ (on_keeps k close close_kept)
      (λ a. then_keeps (stores G p run d k options target [] l.steps) _ (stores_keep d k options target [] l.steps)
      (λ answers. then_keeps (on k reopen) _ (on_keeps k reopen reopen_kept) (λ b. gives_keeps (map (flat_word answers) l.flats))))

  params_keep : (d : Nesting) (k : ℕ) (options : Options) (ty : Plain) (passed : Passed ℕ) → Keeps (lowers_params G p run d k options ty passed)
  params_keep d k options ty passed =
      then_keeps (on k (adds_handles (borrowed G plainly k) (handles_of ty passed))) _ (on_keeps k (adds_handles (borrowed G plainly k) (handles_of ty passed)) (adds_kept (borrowed G plainly k) (handles_of ty passed)))
      (λ indexes. closed_keeps d k options 0 (lower_params ty (renumbered ty passed.value indexes)))

  place_keeps : (b : Bool) (k : ℕ) (options : Options) (ty : Plain) (at : ℕ) → Keeps (finds_place G p run b k options ty at)
  place_keeps false k options ty at = gives_keeps tt
  place_keeps true k options ty at = on_keeps k (has_place options (alignment ty) (size ty) at) (place_kept options (alignment ty) (size ty) at)

  result_keeps : (d : Nesting) (k : ℕ) (options : Options) (ty : Plain) (at : ℕ) (passed : Passed ℕ) → Keeps (lowers_result G p run d k options ty at passed)
  result_keeps d k options ty at passed =
      then_keeps (on k (adds_handles unborrowed (handles_of ty passed))) _ (on_keeps k (adds_handles unborrowed (handles_of ty passed)) (adds_kept unborrowed (handles_of ty passed)))
      (λ indexes. then_keeps (finds_place G p run (spills_over most_results ty) k options ty at) _ (place_keeps (spills_over most_results ty) k options ty at)
      (λ a. closed_keeps d k options at (lower_result ty (renumbered ty passed.value indexes))))

  post_keeps : (d : Nesting) (k : ℕ) (results : List CoreValue) (o : Option ℕ) → Keeps (post_returns G p run d k results o)
  post_keeps d k results None = gives_keeps tt
  post_keeps d k results (Some f) =
      then_keeps (begins_call d) _ (begins_keeps d)
      (λ a. then_keeps (on k close) _ (on_keeps k close close_kept) (λ b. then_keeps (run (deeper d) k f results) _ (runs (deeper d) k f results) (λ x. on_keeps k reopen reopen_kept)))

  pub answers_keep : (d : Nesting) (from : Origin) (target : Target) (passed : Passed ℕ) → Keeps (answers G p run d from target passed)
  answers_keep d from (Theirs import) passed = then_keeps (below (p.ask d from import passed)) _ (below_keeps (p.ask d from import passed)) (λ a. gives_keeps _)
  answers_keep d from (Mine k lifting) passed =
      then_keeps (begins_call d) _ (begins_keeps d)
      (λ a. then_keeps (on k enter) _ (on_keeps k enter enter_kept)
      (λ b. then_keeps (lowers_params G p run (deeper d) k lifting.options (params_tuple lifting.ty) passed) _ (params_keep (deeper d) k lifting.options (params_tuple lifting.ty) passed)
      (λ args. then_keeps (run (deeper d) k lifting.code (values_in 0 (core_params lifting.ty) args)) _ (runs (deeper d) k lifting.code (values_in 0 (core_params lifting.ty) args))
      (λ results. then_keeps (on k (lifts most_results (answer_tuple lifting.ty) lifting.options (words results))) _ (on_keeps k (lifts most_results (answer_tuple lifting.ty) lifting.options (words results)) (lifts_kept most_results (answer_tuple lifting.ty) lifting.options (words results)))
      (λ l. then_keeps (on k (has_no_borrow l.loans)) _ (on_keeps k (has_no_borrow l.loans) (no_borrow_kept l.loans)) (λ x. gives_keeps _))))))

  pub leaves_keep : (d : Nesting) (due : Due) → Keeps (leaves G p run d due)
  leaves_keep d Nothing = gives_keeps tt
  leaves_keep d (Below due) = below_keeps (p.leave d due)
  leaves_keep d (Served k lifting results) = then_keeps (post_returns G p run (deeper d) k results lifting.post) _ (post_keeps (deeper d) k results lifting.post) (λ a. on_keeps k exit exit_kept)

  calls_keep : (d : Nesting) (k : ℕ) (target : Target) (options : Options) (args : List ℕ) → Keeps (calls G p run d k target options args)
  calls_keep d k target options args =
      then_keeps (on k is_open) _ (on_keeps k is_open open_kept)
      (λ a. then_keeps (on k (lifts most_params (params_tuple (type_of target)) options args)) _ (on_keeps k (lifts most_params (params_tuple (type_of target)) options args) (lifts_kept most_params (params_tuple (type_of target)) options args))
      (λ l. then_keeps (answers G p run d Inside target l.passed) _ (answers_keep d Inside target l.passed)
      (λ answer. then_keeps (on k (ends_loans l.loans)) _ (on_keeps k (ends_loans l.loans) (ends_kept l.loans))
      (λ b. then_keeps (lowers_result G p run (during d answer.due) k options (answer_tuple (type_of target)) (place_in (type_of target) args) answer.passed) _ (result_keeps (during d answer.due) k options (answer_tuple (type_of target)) (place_in (type_of target) args) answer.passed)
      (λ results. then_keeps (leaves G p run d answer.due) _ (leaves_keep d answer.due) (λ x. gives_keeps (values_in 0 (lowered (type_of target)).results results)))))))

  destructs_keep : (d : Nesting) (k x : ℕ) (o : Option ℕ) → Keeps (destructs G p run d k x o)
  destructs_keep d k x None = gives_keeps tt
  destructs_keep d k x (Some f) = then_keeps (begins_call d) _ (begins_keeps d) (λ a. then_keeps (run (deeper d) k f (values.I32 x ∷ [])) _ (runs (deeper d) k f (values.I32 x ∷ [])) (λ b. gives_keeps tt))

  drops_keep : (d : Nesting) (r x : ℕ) (o : Option Owner) → Keeps (drops G p run d r x o)
  drops_keep d r x None = below_keeps (p.drop d (G.imported r) x)
  drops_keep d r x (Some o) =
      then_keeps (on o.instance enter) _ (on_keeps o.instance enter enter_kept)
      (λ a. then_keeps (destructs G p run d o.instance x o.destructor) _ (destructs_keep d o.instance x o.destructor) (λ b. on_keeps o.instance exit exit_kept))

  own_keeps : (d : Nesting) (k x : ℕ) (o : Option Owner) → Keeps (destructs_own G p run d k x o)
  own_keeps d k x None = gives_keeps tt
  own_keeps d k x (Some o) = destructs_keep d k x o.destructor

  by_keeps : (d : Nesting) (k r x : ℕ) (b : Bool) → Keeps (drops_by G p run d k r x b)
  by_keeps d k r x true = own_keeps d k x (G.owner r)
  by_keeps d k r x false = drops_keep d r x (G.owner r)

  if_keeps : (d : Nesting) (k r : ℕ) (o : Option ℕ) → Keeps (drops_if G p run d k r o)
  if_keeps d k r None = gives_keeps []
  if_keeps d k r (Some x) = then_keeps (drops_by G p run d k r x (owns G k r)) _ (by_keeps d k r x (owns G k r)) (λ a. gives_keeps [])

  pub performs_keep : (d : Nesting) (k : ℕ) (args : List ℕ) (o : Option Func) → Keeps (performs G p run d k args o)
  performs_keep d k args None = traps_keeps (List CoreValue)
  performs_keep d k args (Some (LoweredFunc target options)) = calls_keep d k target options args
  performs_keep d k args (Some (ResourceNew r)) = then_keeps (on k (makes plainly (owns G k r) r args)) _ (on_keeps k (makes plainly (owns G k r) r args) (makes_kept plainly (owns G k r) r args)) (λ ws. gives_keeps (as_words ws))
  performs_keep d k args (Some (ResourceRep r)) = then_keeps (on k (reads plainly (owns G k r) r args)) _ (on_keeps k (reads plainly (owns G k r) r args) (reads_kept plainly (owns G k r) r args)) (λ ws. gives_keeps (as_words ws))
  performs_keep d k args (Some (ResourceDrop r)) = then_keeps (on k (removes r args)) (drops_if G p run d k r) (on_keeps k (removes r args) (removes_kept r args)) (λ o. if_keeps d k r o)

  pub answers_if_keep : (d : Nesting) (from : Origin) (o : Option Target) (passed : Passed ℕ) → Keeps (answers_if G p run d from o passed)
  answers_if_keep d from None passed = traps_keeps Answer
  answers_if_keep d from (Some target) passed = answers_keep d from target passed
