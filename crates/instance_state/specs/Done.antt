-- What is done to core code.
use Rattle.std.specs.Prelude.{◌≡◌, ◌≤◌, ℕ, List, [], ◌∷◌, ◌++◌, Bool, true, false, length, slice_get, Option, Result, Ok, Err}
use Rattle.std.specs.List.{All}
use Rattle.wasm_ast.specs.declared.module.CoreFunc.{CoreFunc}
use Rattle.wasm_ast.specs.declared.module.Module.{Module}
use Rattle.core_instance.specs.declared.external.Extern.{Extern}
use Rattle.core_instance.specs.declared.external.CoreInstance.{CoreInstance}
use Rattle.core_instance.specs.Instantiation.{instantiated, instance_of}
use Rattle.core_instance.specs.Matching.{ImportsMatch}
use Rattle.core_instance.specs.Spaces.{IsThere}
use Rattle.core_store.specs.State.{State, InMemory}
use Rattle.abi_store.specs.Plan.{Plan, goes_on}
use Rattle.abi_store.specs.Targets.{Stops}
use Rattle.abi_store.specs.declared.target.StoreStep.{StoreStep}
use Rattle.core_store.specs.declared.value.StoreFunc.TheVariants.{Outside}
use Rattle.core_store.specs.declared.value.CoreValue.{CoreValue}
use Rattle.virt_base.specs.declared.fault.Trap.{Trap as IsTrap}
use Rattle.core_memory.specs.declared.fault.StoreFault.{StoreFault}
use Rattle.core_memory.specs.declared.fault.StoreFault.TheVariants.{Trap, NoMemory}
use Rattle.core_interp.specs.declared.machine.Machine.{Machine}
use Rattle.core_interp.specs.declared.machine.Pause.{Pause}
use Rattle.core_interp.specs.declared.machine.Pause.TheVariants as pauses
use Rattle.core_interp.specs.Session.{Follows, Pauses, IsCallable, resumed, awaited}
use Rattle.instance_state.specs.declared.calls.CoreCall.{CoreCall}
use Rattle.instance_state.specs.Ready.{Runs}

-- a call of a function began, in a store where that many calls are in progress
pub record Begun (old : Runs) (function : ℕ) (args : List CoreValue) (nesting : ℕ) (new : Runs) : Type 0 where
  pub machine : Machine
  pub store : new.store ≡ record old.store { nesting = nesting }
  pub calls : new.calls ≡ old.calls ++ record { machine = machine; nesting = nesting } ∷ []
  pub going : new.going ≡ true
  pub follows : Follows new.store function args [] 0 machine new.store

abbrev pub Begins : Runs → ℕ → List CoreValue → ℕ → Runs → Result (Unit {0}) StoreFault → Type 0
Begins old function args nesting new (Ok done) = Begun old function args nesting new
Begins old function args nesting new (Err Trap) = IsCallable (slice_get old.store.functions function) (length args) → old.going ≡ true
Begins old function args nesting new (Err NoMemory) = Unit {0}

-- the call may go on after the pause, by itself or with results
abbrev pub stays_by : Pause → Bool
stays_by (pauses.AtHost number args) = true
stays_by pauses.Spent = true
stays_by (pauses.Done values) = false
stays_by pauses.Trapped = false
stays_by pauses.TooDeep = false

abbrev pub left_if : Bool → List CoreCall → Machine → ℕ → List CoreCall
left_if true calls machine nesting = calls ++ record { machine = machine; nesting = nesting } ∷ []
left_if false calls machine nesting = calls

-- it goes on by itself
abbrev pub goes_by : Pause → Bool
goes_by pauses.Spent = true
goes_by (pauses.AtHost number args) = false
goes_by (pauses.Done values) = false
goes_by pauses.Trapped = false
goes_by pauses.TooDeep = false

-- A call of a store went to its next pause, after those outside it.
pub record Ran (outer : List CoreCall) (call : CoreCall) (old : State) (before : ℕ) (pause : Pause) (left : List CoreCall) (new : State) (after : ℕ) : Type 0 where
  pub machine : Machine
  pub pauses : Pauses call.machine old before pause machine new after
  pub calls : left ≡ left_if (stays_by pause) outer machine new.nesting
  pub few : stays_by pause ≡ true → new.nesting ≤ 65536

-- the innermost call went to its next pause
abbrev pub Goes : Runs → ℕ → Pause → Runs → ℕ → Type 0
Goes old before pause new after = (outer : List CoreCall) (call : CoreCall) → old.calls ≡ outer ++ call ∷ [] → old.going ≡ true →
    Ran outer call old.store before pause new.calls new.store after × (new.going ≡ goes_by pause)

-- the innermost call got the results that it awaits
pub record Resumed (outer : List CoreCall) (inner : CoreCall) (old : Runs) (results : List CoreValue) (new : Runs) : Type 0 where
  pub store : new.store ≡ record old.store { nesting = inner.nesting }
  pub calls : new.calls ≡ outer ++ record { machine = resumed inner.machine results; nesting = inner.nesting } ∷ []
  pub going : new.going ≡ true

abbrev pub Resumes : Runs → List CoreValue → Runs → Result (Unit {0}) IsTrap → Type 0
Resumes old results new (Ok done) = (outer : List CoreCall) (inner : CoreCall) → old.calls ≡ outer ++ inner ∷ [] → Resumed outer inner old results new
Resumes old results new (Err trap) = (outer : List CoreCall) (inner : CoreCall) → old.calls ≡ outer ++ inner ∷ [] → old.going ≡ false → length results ≡ awaited inner.machine → ⊥

-- a function of the embedder is at the next place
abbrev pub Provides : Runs → CoreFunc → ℕ → Runs → Result ℕ StoreFault → Type 0
Provides old ty number new (Ok place) =
    (place ≡ length old.store.functions) × (new ≡ record old { store = record old.store { functions = old.store.functions ++ Outside ty number ∷ [] } })
Provides old ty number new (Err Trap) = old.going ≡ true
Provides old ty number new (Err NoMemory) = Unit {0}

-- what each import is given is there
abbrev pub AreThere : State → List Extern → Type 0
AreThere s imports = All (IsThere s) imports

-- the module was instantiated, or that trapped
abbrev pub Instantiates : Runs → Module → List Extern → Runs → Result CoreInstance StoreFault → Type 0
Instantiates old m imports new (Ok instance) =
    (instantiated old.store m imports ≡ Ok new.store) × (instance ≡ instance_of old.store m imports) × (new.calls ≡ old.calls) × (new.going ≡ old.going)
Instantiates old m imports new (Err Trap) =
    old.going ≡ false → AreThere old.store imports → ImportsMatch old.store m imports → (t : State) × (instantiated old.store m imports ≡ Err t)
Instantiates old m imports new (Err NoMemory) = Unit {0}

-- a plan of storing went on in a memory of the store
abbrev pub Stores : Runs → Plan → ℕ → Option ℕ → Plan → Runs → Result StoreStep StoreFault → Type 0
Stores old plan memory answer left new (Ok step) =
    InMemory old.store new.store memory (λ before after. Stops (goes_on plan.due plan.left answer before) plan.types step left after) × (new.calls ≡ old.calls) × (new.going ≡ old.going)
Stores old plan memory answer left new (Err Trap) = old.going ≡ true
Stores old plan memory answer left new (Err NoMemory) = Unit {0}
