-- A stub's function that stands in an instance. (This project's own.)
use Rattle.std.specs.Prelude.{◌≡◌, ℕ, List, map, length, Bool}
use Rattle.core_store.specs.declared.value.CoreSpaces.{CoreSpaces}
use Rattle.core_store.specs.State.{State as StoreState}
use Rattle.adapter_code.specs.Code.{code_of}
use Rattle.adapter_code.specs.Run.{State, local_width}
use Rattle.adapter_compile.specs.declared.calls.HandleCalls.{HandleCalls}
use Rattle.adapter_compile.specs.Handles.{Numbers, HasCalls}
use Rattle.adapter_compile.specs.Does.{Home, IsHome, IsInRange, BeginsAsZeros}
use Rattle.adapter_transfer.specs.Transfer.{Stands}
use Rattle.adapter_stubs.specs.declared.stub.Stub.{Stub}
use Rattle.adapter_stubs.specs.Widths.{stub_widths}
use Rattle.adapter_stubs.specs.Bodies.{stub_body, IsStub}
use Rattle.adapter_stubs.specs.Calls.{HasHost, StubDoes}
use Rattle.adapter_calls.specs.Instance.{IsQuiet}
use Rattle.adapter_calls.specs.Storing.{SameBut}

-- it does what its routines say from each state, in each store that differs from this in memories and globals alone
abbrev pub StubStands : Numbers → (ℕ → ℕ) → CoreSpaces → (memory : ℕ) → StoreState → (f : ℕ) → Stub → Type 0
StubStands numbers asks spaces memory store f stub =
    (u : StoreState) → SameBut store u → IsQuiet u → (t : State) (made : List Bool) → map local_width t.locals ≡ stub_widths stub → BeginsAsZeros (length stub.flat.params) t.locals → IsInRange t →
    StubDoes numbers asks (record { spaces = spaces; store = u; memory = memory }) f stub t made

-- Where a stub's function stands with all that it calls, it does so.
abbrev pub StubsStand : Type 0
StubsStand =
    (calls : HandleCalls) (numbers : Numbers) (asks : ℕ → ℕ) (home : Home) (f at : ℕ) (stub : Stub) → IsStub stub → HasCalls calls (code_of stub.before.items) → HasCalls calls (code_of stub.after.items) → IsHome calls numbers home →
    Stands stub.flat (stub_body calls at stub) home.spaces home.store f → HasHost asks home at stub.host → StubStands numbers asks home.spaces home.memory home.store f stub
