-- What is done to core code of an instance leaves of its store, and what core code asks of the embedder.
use Rattle.std.specs.Prelude.{◌≡◌, ◌⊎◌, ℕ, List, [], ◌∷◌, ◌++◌, Bool, true, length, Option, Some, Ok}
use Rattle.wasm_ast.specs.declared.module.CoreFunc.{CoreFunc}
use Rattle.wasm_ast.specs.declared.module.Module.{Module}
use Rattle.core_store.specs.State.{State, empty}
use Rattle.core_store.specs.declared.value.CoreValue.{CoreValue}
use Rattle.core_store.specs.Words.{HaveTypes}
use Rattle.core_instance.specs.declared.external.Extern.{Extern}
use Rattle.core_instance.specs.declared.external.CoreInstance.{CoreInstance}
use Rattle.core_interp.specs.declared.machine.Machine.{Machine}
use Rattle.core_interp.specs.declared.machine.Pause.{Pause}
use Rattle.core_interp.specs.declared.machine.Pause.TheVariants.{AtHost}
use Rattle.core_interp.specs.Session.{awaited}
use Rattle.abi_store.specs.Plan.{Plan}
use Rattle.abi_store.specs.declared.target.StoreStep.{StoreStep}
use Rattle.wit_types.specs.Plain.{Plain}
use Rattle.instance_state.specs.declared.calls.CoreCall.{CoreCall}
use Rattle.instance_state.specs.Ready.{Runs, IsAt}
use Rattle.instance_state.specs.Done.{Begins, Goes, Resumes, Provides, Instantiates, Stores}
use Rattle.comp_worlds.specs.Passing.{Handle}
use Rattle.comp_worlds.specs.Groups.{Options, Config}
use Rattle.comp_worlds.specs.Locals.{Local, enter, exit, close, reopen, makes, reads, removes, lifts, adds_handles, ends_loans}
use Rattle.comp_worlds.specs.Calls.{plainly}
use Rattle.call_moments.specs.Kept.{Stays, OnlyGrows, HasHosts}

-- a call of core code begins, goes to its next pause, or gets results; or values are stored
pub record StoresStay : Type 0 where
  pub begins : (old new : Runs) (function : ℕ) (args : List CoreValue) (nesting : ℕ) → Begins old function args nesting new (Ok tt) → Stays old.store new.store
  pub goes : (outer : List CoreCall) (call : CoreCall) (old new : Runs) (before after : ℕ) (pause : Pause) → old.calls ≡ outer ++ call ∷ [] → old.going ≡ true → Goes old before pause new after → Stays old.store new.store
  pub resumes : (outer : List CoreCall) (call : CoreCall) (old new : Runs) (results : List CoreValue) → old.calls ≡ outer ++ call ∷ [] → Resumes old results new (Ok tt) → Stays old.store new.store
  pub stores : (old new : Runs) (plan left : Plan) (memory : ℕ) (answer : Option ℕ) (step : StoreStep) → Stores old plan memory answer left new (Ok step) → Stays old.store new.store

-- an instance is made
pub record StoresGrow : Type 0 where
  pub provides : (old new : Runs) (ty : CoreFunc) (number place : ℕ) → Provides old ty number new (Ok place) → OnlyGrows old.store new.store
  pub instantiates : (old new : Runs) (m : Module) (imports : List Extern) (instance : CoreInstance) → Instantiates old m imports new (Ok instance) → OnlyGrows old.store new.store

-- an operation on an instance leaves its store as it is
abbrev pub LeavesStore : {A : Type 0} → (Config ℕ → Option (Local ℕ A)) → Type 0
LeavesStore {A} op = (c : Config ℕ) (l : Local ℕ A) → op c ≡ Some l → l.config.store ≡ c.store

-- what an instance does by itself
pub record StoresAreLeft : Type 0 where
  pub enters : LeavesStore enter
  pub exits : LeavesStore exit
  pub closes : LeavesStore close
  pub reopens : LeavesStore reopen
  pub makes : (owns : Bool) (resource : ℕ) (args : List ℕ) → LeavesStore (makes plainly owns resource args)
  pub reads : (owns : Bool) (resource : ℕ) (args : List ℕ) → LeavesStore (reads plainly owns resource args)
  pub removes : (resource : ℕ) (args : List ℕ) → LeavesStore (removes resource args)
  pub lifts : (most : ℕ) (ty : Plain) (options : Options) (words : List ℕ) → LeavesStore (lifts most ty options words)
  pub adds : (plain : ℕ → ℕ → Option ℕ) (handles : List (Handle ℕ)) → LeavesStore (adds_handles plain handles)
  pub ends : (loans : List ℕ) → LeavesStore (ends_loans loans)

-- The code after the outer calls awaits results of a function of the embedder that is in the store, which it asked for with arguments of
-- its types.
pub record AwaitsHost (outer : List CoreCall) (number : ℕ) (args : List CoreValue) (old new : Runs) : Type 0 where
  pub machine : Machine
  pub ty : CoreFunc
  pub last : new.calls ≡ outer ++ record { machine = machine; nesting = new.store.nesting } ∷ []
  pub there : HasHosts old.store number ty
  pub typed : HaveTypes ty.params args
  pub awaits : awaited machine ≡ length ty.results

-- the embedder's functions in a store are those that were provided, and core code asks for no others
pub record HostsFunctionsAreAsked : Type 0 where
  pub none : (number : ℕ) (ty : CoreFunc) → HasHosts empty number ty → ⊥
  pub stay : (s t : State) (number : ℕ) (ty : CoreFunc) → Stays s t → HasHosts t number ty → HasHosts s number ty
  pub provides : (old new : Runs) (given : CoreFunc) (by place number : ℕ) (ty : CoreFunc) → Provides old given by new (Ok place) → HasHosts new.store number ty → HasHosts old.store number ty ⊎ ((number ≡ by) × (ty ≡ given))
  pub instantiates : (old new : Runs) (m : Module) (imports : List Extern) (instance : CoreInstance) (number : ℕ) (ty : CoreFunc) → Instantiates old m imports new (Ok instance) → HasHosts new.store number ty → HasHosts old.store number ty
  pub asked : (outer : List CoreCall) (call : CoreCall) (old new : Runs) (before after number : ℕ) (args : List CoreValue) → old.calls ≡ outer ++ call ∷ [] → old.going ≡ true → IsAt call.machine old.store →
      Goes old before (AtHost number args) new after → AwaitsHost outer number args old new
