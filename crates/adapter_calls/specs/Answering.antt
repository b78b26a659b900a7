-- A call of a function of an adapter whose stub asks no host (Component Model, CanonicalABI.md, `canon_lift`): its arguments are lowered, its
-- routine runs, and the answer is lifted from what that leaves.
use Rattle.std.specs.Prelude.{◌≡◌, ℕ, ◌+◌, ◌≤◌, List, [], map, length, Option, Some, None, true, false}
use Rattle.std.specs.List.{All}
use Rattle.std.specs.Option.{option_map, option_and_then}
use Rattle.core_store.specs.declared.value.CoreSpaces.{CoreSpaces}
use Rattle.core_store.specs.State.{State as StoreState}
use Rattle.wit_types.specs.Plain.{PlainFunc}
use Rattle.wit_types.specs.PlainValue.{PlainValue}
use Rattle.abi_layout.specs.Functions.{core_params}
use Rattle.abi_layout.specs.Functions as functions
use Rattle.abi_layout.specs.Handles.{handles}
use Rattle.abi_layout.specs.Storing.{Lowered}
use Rattle.handle_space.specs.HandleMap.{HandleMap, Answered}
use Rattle.adapter_code.specs.declared.state.CodeEnd.{CodeEnd}
use Rattle.adapter_code.specs.declared.state.CodeEnd.TheVariants.{Answer as Answers, Trap}
use Rattle.adapter_code.specs.declared.state.Effect.{Effect}
use Rattle.adapter_code.specs.Code.{code_of}
use Rattle.adapter_code.specs.Layout.{end_of}
use Rattle.adapter_code.specs.Run.{State, RoutineRun, own_resource, number_at, routine_run}
use Rattle.adapter_compile.specs.Handles.{Numbers}
use Rattle.adapter_compile.specs.Does.{IsInRange}
use Rattle.adapter_transfer.specs.Transfer.{IsRealloc}
use Rattle.adapter_stubs.specs.declared.stub.Stub.{Stub}
use Rattle.adapter_stubs.specs.Widths.{IsFlat, stub_widths, result_of}
use Rattle.adapter_stubs.specs.Calls.{flat_in, asked_behind}
use Rattle.host_port.specs.Calls.{PlainObservation}
use Rattle.host_port.specs.Hosts.{HostStep}
use Rattle.comp_worlds.specs.Acts.{Out, Trapped, Next, Over}
use Rattle.comp_worlds.specs.Groups.{Endless, Lifting, Mine, Group, Config, World, Origin, Served, Answer}
use Rattle.comp_worlds.specs.Passing.{Passed, blank}
use Rattle.comp_worlds.specs.Calls.{answers}
use Rattle.comp_worlds.specs.Hosts.{hosted}
use Rattle.comp_frames.specs.Running.{running}
use Rattle.row_runs.specs.Passing.{answer_tuple, named_in, takes, lift_words}
use Rattle.row_runs.specs.RowRun.{begun, results_in}
use Rattle.row_runs.specs.Stored.{Stored, flat_word, stored_in}
use Rattle.adapter_calls.specs.Arguments.{type_in, HandlesAreLent, lowered_of}
use Rattle.adapter_calls.specs.Handling.{KnowsKinds, map_to, OfKinds, AreOwned, lost}
use Rattle.adapter_calls.specs.Instance.{standing}
use Rattle.adapter_calls.specs.Lifting.{own_tuple, AreOwn}
use Rattle.adapter_calls.specs.Standing.{StubStands}
use Rattle.adapter_calls.specs.Storing.{Area, HasArea, SameBut, CanAskAll, options_of}

-- ---- the function

-- a stub's function, as the adapter's group lifts it
abbrev pub lifting_of : (ℕ → ℕ) → Area → PlainFunc → (f : ℕ) → (post : Option ℕ) → Lifting
lifting_of to p ty f post = record { code = f; ty = type_in to ty; options = options_of p; post = post }

-- the stub is one of a function of this type, which answers no borrowed handle
pub record IsStubOf (ty : PlainFunc) (stub : Stub) : Type 0 where
  pub flat : All IsFlat stub.flat.params
  pub params : stub.flat.params ≡ core_params ty
  pub results : stub.flat.results ≡ (functions.lifted ty).results
  pub own : (v : PlainValue) → AreOwn (named_in (handles (answer_tuple ty) v))

-- ---- its routine

-- from where the routine before begins, and its run
abbrev pub begun_in : Stub → Lowered → HandleMap ℕ → Stored → State
begun_in stub low table to = record { locals = begun (stub_widths stub) (map (flat_word to.answers) low.flats); memory = to.memory; table = table; effects = [] }

abbrev pub run_in : Stub → Lowered → HandleMap ℕ → Stored → RoutineRun
run_in stub low table to = routine_run (code_of stub.before.items) (begun_in stub low table to)

-- The arguments are as many as the parameters and in range, and the routine leaves a flag by which no host is asked.
pub record AsksNobody (stub : Stub) (low : Lowered) (table : HandleMap ℕ) (to : Stored) : Type 0 where
  pub count : length low.flats ≡ length stub.flat.params
  pub range : IsInRange (begun_in stub low table to)
  pub nobody : asked_behind stub (run_in stub low table to) ≡ None
  pub kinds : OfKinds (run_in stub low table to).state.effects

-- ---- its answer

-- a value, what its handles stood for, and the handles that are left
pub record Reply : Type 0 where
  pub value : PlainValue
  pub taken : Answered ℕ (List ℕ)

abbrev pub reply_with : PlainValue → Answered ℕ (List ℕ) → Reply
reply_with v a = record { value = v; taken = a }

abbrev pub reply_by : PlainFunc → State → PlainValue → Option Reply
reply_by ty t v = option_map (reply_with v) (takes own_resource (named_in (handles (answer_tuple ty) v)) t.table)

-- lifted from the flat result as the row's run lifts it
abbrev pub reply_of : PlainFunc → Stub → State → Option Reply
reply_of ty stub t = option_and_then (reply_by ty t) (lift_words 1 (answer_tuple ty) t.memory (results_in stub.flat.results (number_at t (result_of stub))))

abbrev pub passed_of : PlainFunc → Reply → Passed ℕ
passed_of ty r = record { value = blank (own_tuple ty) r.value; reps = r.taken.answer }

-- ---- a call

module _ {S : Type 0} (h : HostStep S) (G : Group) (instance : ℕ) (to : ℕ → ℕ) (p : Area) (stub : Stub) (ty : PlainFunc) (f : ℕ) (post : Option ℕ) (from : Origin) (passed : Passed ℕ) (w : World S) (c : Config ℕ) (s : S) where
  abbrev pub called : ℕ → Out (World S) Answer
  called n = answers G (hosted h) (running G (hosted h)) Endless from (Mine instance (lifting_of to p ty f post)) passed (standing w instance c s) n

  -- it traps
  pub record Stops (seen : List PlainObservation) : Type 0 where
    pub steps : ℕ
    pub goes : (n : ℕ) → called (steps + n) ≡ Over seen Trapped

  -- It is answered: the instance is entered, and holds the memory and the handles that the routine left, without those that the answer took.
  pub record Replies (es : List Effect) (now : Stored) (t : State) (r : Reply) : Type 0 where
    pub steps : ℕ
    pub store : StoreState
    pub same : SameBut c.store store
    pub area : end_of p.layout ≤ length t.memory → HasArea p store (record { memory = t.memory; used = now.used; answers = now.answers })
    pub owned : AreOwned r.taken.map.entries
    pub goes : (n : ℕ) →
        called (steps + n)
        ≡ Next (lost h G to es s).seen n (standing w instance (record { store = store; map = map_to to r.taken.map; entered = true; closed = false }) (lost h G to es s).next)
        (record { passed = passed_of ty r; due = Served instance (lifting_of to p ty f post) (flat_in stub t) })

  -- as its routine ends, of whose dropped handles the host was told
  abbrev pub EndsSo : List Effect → Stored → State → CodeEnd → Option Reply → Type 0
  EndsSo es now t Trap r = Stops (lost h G to es s).seen
  EndsSo es now t Answers None = Stops (lost h G to es s).seen
  EndsSo es now t Answers (Some r) = Replies es now t r

  abbrev pub EndsAs : RoutineRun → Stored → Type 0
  EndsAs run now = EndsSo run.state.effects now run.state run.end (reply_of ty stub run.state)

  -- where the arguments were stored
  abbrev pub CallEnds : HandleMap ℕ → Option Stored → Type 0
  CallEnds table None = Stops []
  CallEnds table (Some now) = AsksNobody stub (lowered_of ty passed) table now → EndsAs (run_in stub (lowered_of ty passed) table now) now

-- the instance is neither entered nor closed, none of its handles is borrowed, and it holds these bytes and a stub's function
pub record IsIdle (numbers : Numbers) (asks : ℕ → ℕ) (spaces : CoreSpaces) (to : ℕ → ℕ) (p : Area) (f : ℕ) (stub : Stub) (c : Config ℕ) (table : HandleMap ℕ) (now : Stored) : Type 0 where
  pub outside : c.entered ≡ false
  pub unclosed : c.closed ≡ false
  pub handles : c.map ≡ map_to to table
  pub owned : AreOwned table.entries
  pub area : HasArea p c.store now
  pub fresh : now.answers ≡ []
  pub stands : StubStands numbers asks spaces p.memory c.store f stub

abbrev pub StubsAnswer : {S : Type 0} → HostStep S → Type 0
StubsAnswer {S} h =
    (G : Group) (instance : ℕ) (numbers : Numbers) (to : ℕ → ℕ) → KnowsKinds G instance numbers to → (p : Area) → IsRealloc p.layout p.body →
    (asks : ℕ → ℕ) (spaces : CoreSpaces) (stub : Stub) (ty : PlainFunc) (f : ℕ) (post : Option ℕ) → IsStubOf ty stub → (from : Origin) (passed : Passed ℕ) → HandlesAreLent ty passed → CanAskAll (lowered_of ty passed).steps →
    (w : World S) (c : Config ℕ) (s : S) (table : HandleMap ℕ) (now : Stored) → IsIdle numbers asks spaces to p f stub c table now →
    CallEnds h G instance to p stub ty f post from passed w c s table (stored_in p.layout 0 now (lowered_of ty passed).steps)
