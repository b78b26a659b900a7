-- What is done to a group: canonical calls (Component Model, CanonicalABI.md, `canon_lift`, `canon_lower`, `canon_resource_new`,
-- `canon_resource_drop`, `canon_resource_rep`), core code that makes them, and the making of a group. The order of the ten parts of a
-- call, the two flags and the tests of them are this project's own.
use Rattle.std.specs.Prelude.{ℕ, zero, suc, ◌+◌, ◌-◌, ◌==◌, ◌++◌, List, [], ◌∷◌, length, map, slice_index, Option, Some, None, Bool, true, false}
use Rattle.core_memory.specs.Number.{bytes_of}
use Rattle.core_store.specs.State.{State, empty as new_store}
use Rattle.core_store.specs.declared.value.CoreValue.{CoreValue}
use Rattle.core_store.specs.declared.value.CoreValue.TheVariants as values
use Rattle.core_store.specs.Words.{words, values_in}
use Rattle.core_store.specs.Config.{Reply, Outcome, Done, Trapped as CoreTrapped, Asks, Spent as CoreSpent, TooDeep as CoreTooDeep}
use Rattle.core_store.specs.Eval.{eval}
use Rattle.wit_types.specs.Plain.{Plain, PlainFunc}
use Rattle.wit_types.specs.Layout.{alignment, size}
use Rattle.abi_layout.specs.Functions.{lowered, core_params}
use Rattle.abi_layout.specs.Storing.{Step, Ask, Write, Place, Refuse, Lowered}
use Rattle.abi_layout.specs.Handles.{renumbered}
use Rattle.handle_space.specs.HandleMap.{empty}
use Rattle.comp_worlds.specs.Acts.{Trapped, TooDeep, Out, Next, Over, Spent, Act, ◌>>◌, gives, traps, spent, takes_step, with_more}
use Rattle.comp_worlds.specs.Passing.{Passed, params_tuple, answer_tuple, handles_of, most_params, most_results, spills_over, lower_params, lower_result}
use Rattle.comp_worlds.specs.Groups.{Nesting, deeper, has_room, at_depth, store_at, Options, Target, Mine, Theirs, type_of, Func, LoweredFunc, ResourceNew, ResourceDrop, ResourceRep, Owner, Stage, Provides, Makes, Begins, Group, Config, World, Due, Nothing, Served, Below, Answer, Origin, Inside, Ports}
use Rattle.comp_worlds.specs.Locals.{Local, with_store, is_open, enter, exit, close, reopen, lifts, ends_loans, has_no_borrow, adds_handles, has_place, is_granted, writes, base_of, flat_word, Numbers, makes, reads, removes, provides, makes_module}

-- ---- 1. what is done to a world

abbrev pub pick : {A : Type 0} → Bool → A → A → A
pick true a b = a
pick false a b = b

abbrev pub set : {R : Type 0} → (ℕ → Config R) → ℕ → Config R → ℕ → Config R
set configs k c m = pick (m == k) c (configs m)

abbrev pub with_config : {S : Type 0} → World S → ℕ → Config ℕ → World S
with_config w k c = record { configs = set w.configs k c; below = w.below }

abbrev pub on_end : {S A : Type 0} → World S → ℕ → ℕ → Option (Local ℕ A) → Out (World S) A
on_end w k n None = Over [] Trapped
on_end w k n (Some o) = Next [] n (with_config w k o.config) o.answer

-- an operation on the instance k, which traps where it does not go
unfoldable pub on : {S A : Type 0} → ℕ → (Config ℕ → Option (Local ℕ A)) → Act (World S) A
on k op w n = on_end w k n (op (w.configs k))

abbrev pub below_end : {S A : Type 0} → World S → Out S A → Out (World S) A
below_end w (Next o l s a) = Next o l (record { configs = w.configs; below = s }) a
below_end w (Over o e) = Over o e
below_end w (Spent o) = Spent o

unfoldable pub below : {S A : Type 0} → Act S A → Act (World S) A
below x w n = below_end w (x w.below n)

-- core code stands at its end, or at a question, in which that many calls are in progress, and for which that many steps were used
pub data Pause : Type 0 where
  Finished : (results : List CoreValue) → Pause
  Question : (number : ℕ) (args : List CoreValue) (nesting used : ℕ) → Pause

abbrev pub core_end : {S : Type 0} → World S → ℕ → ℕ → Outcome → Out (World S) Pause
core_end w k n (Done results store left) = Next [] left (with_config w k (with_store (w.configs k) store)) (Finished results)
core_end w k n CoreTrapped = Over [] Trapped
core_end w k n (Asks number args store left) = Next [] left (with_config w k (with_store (w.configs k) store)) (Question number args store.nesting (n - left))
core_end w k n CoreSpent = Spent []
core_end w k n CoreTooDeep = Over [] TooDeep

-- core code of the instance k runs to its end or its next question, from its beginning in this store with these replies
unfoldable pub core : {S : Type 0} → ℕ → State → ℕ → List CoreValue → List Reply → Act (World S) Pause
core k store f args replies w n = core_end w k n (eval store f args replies n)

unfoldable pub store_of : {S : Type 0} → ℕ → Act (World S) State
store_of k w n = Next [] n w (w.configs k).store

-- one call too many: its step comes first
abbrev pub too_deep : {W : Type 0} → ℕ → Out W (Unit {0})
too_deep zero = Spent []
too_deep (suc n) = Over [] TooDeep

abbrev pub if_room : {W : Type 0} → Bool → W → ℕ → Out W (Unit {0})
if_room true w n = Next [] n w tt
if_room false w n = too_deep n

unfoldable pub finds_room : {W : Type 0} → Nesting → Act W (Unit {0})
finds_room d w n = if_room (has_room d) w n

-- a canonical call takes its step as it begins, and then enters
abbrev pub begins_call : {W : Type 0} → Nesting → Act W (Unit {0})
begins_call d = takes_step >> λ _. finds_room d

-- ---- 2. canonical calls. `run` runs a core function of an instance, where that many calls are in progress

abbrev pub Run : Type 0 → Type 0
Run S = Nesting → ℕ → ℕ → List CoreValue → Act (World S) (List CoreValue)

abbrev pub owned_by : Option Owner → ℕ → Bool
owned_by None k = false
owned_by (Some o) k = o.instance == k

abbrev pub owns : Group → ℕ → ℕ → Bool
owns G k r = owned_by (G.owner r) k

abbrev pub number_if : Bool → ℕ → Option ℕ
number_if true n = Some n
number_if false n = None

-- a handle lent to the instance that defines its resource is lowered as its number
abbrev pub borrowed : {R : Type 0} → Group → Numbers R → ℕ → ℕ → R → Option ℕ
borrowed G numbers k r x = number_if (owns G k r) (numbers.number x)

-- results hold no borrowed handles
abbrev pub unborrowed : {R : Type 0} → ℕ → R → Option ℕ
unborrowed r x = Some 0

-- handles are plain numbers
abbrev pub plainly : Numbers ℕ
plainly = record { made = λ n. n; number = λ n. n }

-- a lifted function is in progress until its call is left
abbrev pub during : Nesting → Due → Nesting
during d Nothing = d
during d (Served k lifting results) = deeper d
during d (Below due) = during d due

-- where the result goes, if it goes through memory: the parameter after the others
abbrev pub place_in : PlainFunc → List ℕ → ℕ
place_in ty args = slice_index args (length (core_params ty))

-- numbers as core values of 32 bits
abbrev pub as_words : List ℕ → List CoreValue
as_words ws = map values.I32 ws

module _ {S : Type 0} (G : Group) (p : Ports S) (run : Run S) where
  -- a function by an option that must be there: `realloc`
  abbrev pub asks_for : Nesting → ℕ → Option ℕ → (align len : ℕ) → Act (World S) (List CoreValue)
  asks_for d k None align len = traps
  asks_for d k (Some f) align len = begins_call d >> λ _. run (deeper d) k f (values.I32 0 ∷ values.I32 0 ∷ values.I32 align ∷ values.I32 len ∷ [])

  -- the steps of storing, where these requests were answered; the answers to all
  abbrev pub stores : Nesting → ℕ → Options → (target : ℕ) → (answers : List ℕ) → List Step → Act (World S) (List ℕ)
  stores d k options target answers [] = gives answers
  stores d k options target answers (Ask align len ∷ steps) =
      asks_for d k options.realloc align len >> λ results.
      on k (is_granted options align len (words results)) >> λ at.
      stores d k options target (answers ++ at ∷ []) steps
  stores d k options target answers (Write base offset bytes ∷ steps) =
      on k (writes options (base_of target answers base + offset) bytes) >> λ _.
      stores d k options target answers steps
  stores d k options target answers (Place base offset request ∷ steps) =
      on k (writes options (base_of target answers base + offset) (bytes_of 4 (slice_index answers request))) >> λ _.
      stores d k options target answers steps
  stores d k options target answers (Refuse ∷ steps) = traps

  -- values are stored in the instance k while it is closed; the flat values
  abbrev pub lowers_closed : Nesting → ℕ → Options → ℕ → Lowered → Act (World S) (List ℕ)
  lowers_closed d k options target l =
      on k close >> λ _.
      stores d k options target [] l.steps >> λ answers.
      on k reopen >> λ _.
      gives (map (flat_word answers) l.flats)

  -- parameters are lowered into the instance that is called: their handles first
  abbrev pub lowers_params : Nesting → ℕ → Options → Plain → Passed ℕ → Act (World S) (List ℕ)
  lowers_params d k options ty passed =
      on k (adds_handles (borrowed G plainly k) (handles_of ty passed)) >> λ indexes.
      lowers_closed d k options 0 (lower_params ty (renumbered ty passed.value indexes))

  abbrev pub finds_place : Bool → ℕ → Options → Plain → ℕ → Act (World S) (Unit {0})
  finds_place false k options ty at = gives tt
  finds_place true k options ty at = on k (has_place options (alignment ty) (size ty) at)

  -- a result is lowered into the instance that called, at a place that it gave where the result goes through memory
  abbrev pub lowers_result : Nesting → ℕ → Options → Plain → ℕ → Passed ℕ → Act (World S) (List ℕ)
  lowers_result d k options ty at passed =
      on k (adds_handles unborrowed (handles_of ty passed)) >> λ indexes.
      finds_place (spills_over most_results ty) k options ty at >> λ _.
      lowers_closed d k options at (lower_result ty (renumbered ty passed.value indexes))

  abbrev pub post_returns : Nesting → ℕ → List CoreValue → Option ℕ → Act (World S) (Unit {0})
  post_returns d k results None = gives tt
  post_returns d k results (Some f) =
      begins_call d >> λ _.
      on k close >> λ _.
      run (deeper d) k f results >> λ _.
      on k reopen

  -- the parts 3 to 7 of a call, which are the callee's; an import has its own
  abbrev pub answers : Nesting → Origin → Target → Passed ℕ → Act (World S) Answer
  answers d from (Theirs import) passed =
      below (p.ask d from import passed) >> λ a.
      gives (record { passed = a.passed; due = Below a.due })
  answers d from (Mine k lifting) passed =
      begins_call d >> λ _.
      on k enter >> λ _.
      lowers_params (deeper d) k lifting.options (params_tuple lifting.ty) passed >> λ args.
      run (deeper d) k lifting.code (values_in 0 (core_params lifting.ty) args) >> λ results.
      on k (lifts most_results (answer_tuple lifting.ty) lifting.options (words results)) >> λ l.
      on k (has_no_borrow l.loans) >> λ _.
      gives (record { passed = l.passed; due = Served k lifting results })

  -- the parts 9 and 10
  abbrev pub leaves : Nesting → Due → Act (World S) (Unit {0})
  leaves d Nothing = gives tt
  leaves d (Below due) = below (p.leave d due)
  leaves d (Served k lifting results) =
      post_returns (deeper d) k results lifting.post >> λ _.
      on k exit

  -- a call of a lowered function by core code of the instance k
  abbrev pub calls : Nesting → ℕ → Target → Options → List ℕ → Act (World S) (List CoreValue)
  calls d k target options args =
      on k is_open >> λ _.
      on k (lifts most_params (params_tuple (type_of target)) options args) >> λ l.
      answers d Inside target l.passed >> λ answer.
      on k (ends_loans l.loans) >> λ _.
      lowers_result (during d answer.due) k options (answer_tuple (type_of target)) (place_in (type_of target) args) answer.passed >> λ results.
      leaves d answer.due >> λ _.
      gives (values_in 0 (lowered (type_of target)).results results)

  abbrev pub destructs : Nesting → ℕ → ℕ → Option ℕ → Act (World S) (Unit {0})
  destructs d k x None = gives tt
  destructs d k x (Some f) =
      begins_call d >> λ _.
      run (deeper d) k f (values.I32 x ∷ []) >> λ _.
      gives tt

  -- an instance is entered for a destructor
  abbrev pub visits : Nesting → Owner → ℕ → Act (World S) (Unit {0})
  visits d o x =
      on o.instance enter >> λ _.
      destructs d o.instance x o.destructor >> λ _.
      on o.instance exit

  -- a handle of an import's resource, or of an instance's, is dropped from outside of that instance
  abbrev pub drops : Nesting → ℕ → ℕ → Option Owner → Act (World S) (Unit {0})
  drops d r x None = below (p.drop d (G.imported r) x)
  drops d r x (Some o) = visits d o x

  abbrev pub destructs_own : Nesting → ℕ → ℕ → Option Owner → Act (World S) (Unit {0})
  destructs_own d k x None = gives tt
  destructs_own d k x (Some o) = destructs d k x o.destructor

  abbrev pub drops_by : Nesting → ℕ → ℕ → ℕ → Bool → Act (World S) (Unit {0})
  drops_by d k r x true = destructs_own d k x (G.owner r)
  drops_by d k r x false = drops d r x (G.owner r)

  abbrev pub drops_if : Nesting → ℕ → ℕ → Option ℕ → Act (World S) (List CoreValue)
  drops_if d k r None = gives []
  drops_if d k r (Some x) = drops_by d k r x (owns G k r) >> λ _. gives []

  abbrev pub performs : Nesting → ℕ → List ℕ → Option Func → Act (World S) (List CoreValue)
  performs d k args None = traps
  performs d k args (Some (LoweredFunc target options)) = calls d k target options args
  performs d k args (Some (ResourceNew r)) = on k (makes plainly (owns G k r) r args) >> λ ws. gives (as_words ws)
  performs d k args (Some (ResourceRep r)) = on k (reads plainly (owns G k r) r args) >> λ ws. gives (as_words ws)
  performs d k args (Some (ResourceDrop r)) = on k (removes r args) >> drops_if d k r

  -- core code goes on from a pause: its question is answered by a canonical call
  abbrev pub goes_on : (Reply → Act (World S) (List CoreValue)) → Nesting → ℕ → Pause → Act (World S) (List CoreValue)
  goes_on again d k (Finished results) = gives results
  goes_on again d k (Question number args now used) =
      begins_call (at_depth d now) >> λ _.
      performs (deeper (at_depth d now)) k (words args) (G.canons k number) >> λ results.
      store_of k >> λ store.
      with_more used (again (record { results = results; store = record (store_at d store) { nesting = now } }))

-- ---- 3. the knot. Questions and canonical calls are nested at most so deep; each takes a step

module _ {S : Type 0} (G : Group) (p : Ports S) where
  -- core code from its beginning, its first questions having had these replies
  abbrev pub drives : (fuel : ℕ) → Nesting → ℕ → ℕ → List CoreValue → State → List Reply → Act (World S) (List CoreValue)
  drives zero d k f args store replies = spent
  drives (suc fuel) d k f args store replies =
      core k store f args replies >>
      goes_on G p (λ d' m g args'. store_of m >> λ store'. drives fuel d' m g args' (store_at d' store') []) (λ reply. drives fuel d k f args store (replies ++ reply ∷ [])) d k

  abbrev pub runs : (fuel : ℕ) → Run S
  runs fuel d k f args = store_of k >> λ store. drives fuel d k f args (store_at d store) []

-- with n steps they are never nested deeper than this
unfoldable pub deep_enough : {W A : Type 0} → (ℕ → Act W A) → Act W A
deep_enough x w n = x (suc n) w n

-- ---- 4. a group meets the imports of others

module _ {S : Type 0} (G : Group) (p : Ports S) where
  abbrev pub answers_if : Run S → Nesting → Origin → Option Target → Passed ℕ → Act (World S) Answer
  answers_if run d from None passed = traps
  answers_if run d from (Some target) passed = answers G p run d from target passed

  abbrev pub drops_given : Run S → Nesting → ℕ → Option ℕ → Act (World S) (Unit {0})
  drops_given run d x None = traps
  drops_given run d x (Some r) = drops G p run d r x (G.owner r)

  abbrev pub group : Ports (World S)
  group = record {
    ask = λ d from import passed. deep_enough (λ fuel. answers_if (runs G p fuel) d from (G.exports import.interface import.function) passed);
    leave = λ d due. deep_enough (λ fuel. leaves G p (runs G p fuel) d due);
    drop = λ d resource x. deep_enough (λ fuel. drops_given (runs G p fuel) d x (G.given resource));
  }

  -- ---- 5. the making of a group. Start functions run in instances that are not entered

  abbrev pub starts : Run S → Nesting → ℕ → Option ℕ → Act (World S) (Unit {0})
  starts run d k None = gives tt
  starts run d k (Some f) = run d k f [] >> λ _. gives tt

  abbrev pub does : Run S → Nesting → Stage → Act (World S) (Unit {0})
  does run d (Provides k ty number) = on k (provides ty number)
  does run d (Makes k make start) = takes_step >> λ _. on k (makes_module make) >> λ _. starts run d k start
  does run d Begins = takes_step

  abbrev pub does_all : Run S → Nesting → List Stage → Act (World S) (Unit {0})
  does_all run d [] = gives tt
  does_all run d (stage ∷ stages) = does run d stage >> λ _. does_all run d stages

  abbrev pub is_made : Nesting → Act (World S) (Unit {0})
  is_made d = deep_enough (λ fuel. does_all (runs G p fuel) d G.stages)

-- an instance before anything is made in it; each run of core code sets the nesting and its limit in the store
abbrev pub at_rest : {R : Type 0} → Config R
at_rest = record { store = new_store; map = empty; entered = false; closed = false }
