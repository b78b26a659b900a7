-- A stub's function that core code of an instance runs, and that asks no host. (This project's own.)
use Rattle.std.specs.Prelude.{◌≡◌, ℕ, ◌+◌, List, length, Bool}
use Rattle.adapter_code.specs.declared.state.CodeEnd.TheVariants.{Answer, Trap}
use Rattle.adapter_code.specs.Run.{State, RoutineRun}
use Rattle.adapter_compile.specs.Handles.{Numbers}
use Rattle.adapter_compile.specs.Does.{Home, store_with}
use Rattle.adapter_stubs.specs.declared.stub.Stub.{Stub}
use Rattle.adapter_stubs.specs.Calls.{arguments_in, flat_in, StubEnds}
use Rattle.host_port.specs.Hosts.{HostStep}
use Rattle.comp_worlds.specs.Acts.{Trapped, Next, Over}
use Rattle.comp_worlds.specs.Groups.{Endless, Config, Group, World}
use Rattle.comp_worlds.specs.Hosts.{hosted}
use Rattle.comp_frames.specs.Running.{running}
use Rattle.adapter_calls.specs.Handling.{KnowsKinds, map_to, OfKinds, lost}
use Rattle.adapter_calls.specs.Instance.{standing, with_both}
use Rattle.adapter_calls.specs.Routines.{IsAt}

-- One whose routine before ends with an answer gives the flat result of what that leaves, and leaves its memory and its handles; the host was
-- told of the handles that it dropped. It takes its own steps and one for each handle that it made or dropped.
abbrev pub StubsReturn : {S : Type 0} → HostStep S → Type 0
StubsReturn {S} h =
    (G : Group) (instance : ℕ) (numbers : Numbers) (to : ℕ → ℕ) → KnowsKinds G instance numbers to →
    (home : Home) (f : ℕ) (stub : Stub) (state : State) (made : List Bool) (run : RoutineRun) (ends : StubEnds numbers home f stub state made run) → OfKinds ends.effects → run.end ≡ Answer →
    (w : World S) (c : Config ℕ) (s : S) → IsAt home to state made c → (n : ℕ) →
    running G (hosted h) Endless instance f (arguments_in stub state) (standing w instance c s) (ends.steps + (length ends.effects + n))
    ≡ Next (lost h G to ends.effects s).seen n
    (standing w instance (with_both c (store_with home run.state.memory ends.made') (map_to to run.state.table)) (lost h G to ends.effects s).next) (flat_in stub run.state)

-- One whose routine before traps, or asks for a handle that it is refused, traps, with a step more left for the question that is refused.
abbrev pub StubsTrap : {S : Type 0} → HostStep S → Type 0
StubsTrap {S} h =
    (G : Group) (instance : ℕ) (numbers : Numbers) (to : ℕ → ℕ) → KnowsKinds G instance numbers to →
    (home : Home) (f : ℕ) (stub : Stub) (state : State) (made : List Bool) (run : RoutineRun) (ends : StubEnds numbers home f stub state made run) → OfKinds ends.effects → run.end ≡ Trap →
    (w : World S) (c : Config ℕ) (s : S) → IsAt home to state made c → (n : ℕ) →
    running G (hosted h) Endless instance f (arguments_in stub state) (standing w instance c s) (ends.steps + (length ends.effects + (1 + n))) ≡ Over (lost h G to ends.effects s).seen Trapped
