-- A handle of an adapter's own resource is dropped: the instance is entered for its destructor (Component Model, CanonicalABI.md,
-- `canon resource.drop`).
use Rattle.std.specs.Prelude.{◌≡◌, ℕ, suc, ◌+◌, List, [], length, Some, Bool, false}
use Rattle.handle_space.specs.HandleMap.{HandleMap}
use Rattle.adapter_code.specs.declared.state.CodeEnd.TheVariants.{Answer}
use Rattle.adapter_code.specs.Run.{RoutineRun}
use Rattle.adapter_compile.specs.Handles.{Numbers}
use Rattle.adapter_compile.specs.Does.{Home, store_with, DoesCalled}
use Rattle.adapter_state.specs.Destructor.{destructor_state}
use Rattle.host_port.specs.Hosts.{HostStep}
use Rattle.comp_worlds.specs.Acts.{Next}
use Rattle.comp_worlds.specs.Groups.{Endless, Config, Group, World}
use Rattle.comp_worlds.specs.Calls.{drops}
use Rattle.comp_worlds.specs.Hosts.{hosted}
use Rattle.comp_frames.specs.Running.{running}
use Rattle.adapter_calls.specs.Handling.{KnowsKinds, map_to, OfKinds, lost}
use Rattle.adapter_calls.specs.Instance.{standing}
use Rattle.adapter_calls.specs.Routines.{IsAt}

-- A destructor that ends with an answer leaves its memory and its handles, and the host was told of the handle that it dropped. It takes a
-- step more than its routine.
abbrev pub DropsByDestructor : {S : Type 0} → HostStep S → Type 0
DropsByDestructor {S} h =
    (G : Group) (instance : ℕ) (numbers : Numbers) (to : ℕ → ℕ) → KnowsKinds G instance numbers to →
    (home : Home) (f at : ℕ) (memory : List ℕ) (table : HandleMap ℕ) (made : List Bool) (run : RoutineRun) (does : DoesCalled numbers home f 1 (destructor_state at memory table []) made run) → OfKinds does.effects → run.end ≡ Answer →
    (w : World S) (c : Config ℕ) (s : S) → IsAt home to (destructor_state at memory table []) made c → c.entered ≡ false → (r n : ℕ) →
    drops G (hosted h) (running G (hosted h)) Endless r at (Some (record { instance = instance; destructor = Some f })) (standing w instance c s) (suc (does.steps + (length does.effects + n)))
    ≡ Next (lost h G to does.effects s).seen n
    (standing w instance (record { store = store_with home run.state.memory does.made'; map = map_to to run.state.table; entered = false; closed = c.closed }) (lost h G to does.effects s).next) tt
