-- How long memories are. (WebAssembly Core 2.0: section 4.4.7, no instruction shrinks a memory.)
use Rattle.std.specs.Prelude.{◌≡◌, ◌≤◌, ℕ, List, [], ◌∷◌, ◌++◌, true, length, Option, Ok}
use Rattle.core_store.specs.State.{State, memory_at}
use Rattle.core_store.specs.declared.value.CoreValue.{CoreValue}
use Rattle.core_interp.specs.declared.machine.Pause.TheVariants.{Done, AtHost}
use Rattle.abi_store.specs.Plan.{Plan}
use Rattle.abi_store.specs.declared.target.StoreStep.{StoreStep}
use Rattle.instance_state.specs.declared.calls.CoreCall.{CoreCall}
use Rattle.instance_state.specs.Ready.{Runs, IsAt}
use Rattle.instance_state.specs.Done.{Begins, Goes, Resumes, Stores}

-- each memory has as many bytes, or more
abbrev pub NoShorter : State → State → Type 0
NoShorter s t = (at : ℕ) → length (memory_at s at).bytes ≤ length (memory_at t at).bytes

pub record MemoriesNeverShrink : Type 0 where
  pub begins : (old new : Runs) (function : ℕ) (args : List CoreValue) (nesting : ℕ) → Begins old function args nesting new (Ok tt) → NoShorter old.store new.store
  -- the innermost call, which is at some point, ends, or asks the embedder
  pub ends : (outer : List CoreCall) (call : CoreCall) (old new : Runs) (before after : ℕ) (values : List CoreValue) → old.calls ≡ outer ++ call ∷ [] → old.going ≡ true → IsAt call.machine old.store →
      Goes old before (Done values) new after → NoShorter old.store new.store
  pub asks : (outer : List CoreCall) (call : CoreCall) (old new : Runs) (before after number : ℕ) (args : List CoreValue) → old.calls ≡ outer ++ call ∷ [] → old.going ≡ true → IsAt call.machine old.store →
      Goes old before (AtHost number args) new after → NoShorter old.store new.store
  pub resumes : (outer : List CoreCall) (call : CoreCall) (old new : Runs) (results : List CoreValue) → old.calls ≡ outer ++ call ∷ [] → Resumes old results new (Ok tt) → NoShorter old.store new.store
  pub stores : (old new : Runs) (plan left : Plan) (memory : ℕ) (answer : Option ℕ) (step : StoreStep) → Stores old plan memory answer left new (Ok step) → NoShorter old.store new.store
