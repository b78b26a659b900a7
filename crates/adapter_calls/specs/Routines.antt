-- A routine that core code of an instance runs as a function of its own, and what it leaves. (This project's own.)
use Rattle.std.specs.Prelude.{◌≡◌, ℕ, ◌+◌, List, [], length, map, take, Bool, false}
use Rattle.adapter_code.specs.declared.state.CodeEnd.TheVariants.{Answer, Trap}
use Rattle.adapter_code.specs.Run.{State, RoutineRun}
use Rattle.adapter_compile.specs.Handles.{Numbers}
use Rattle.adapter_compile.specs.Does.{Home, store_with, core_value, DoesCalled}
use Rattle.host_port.specs.Hosts.{HostStep}
use Rattle.comp_worlds.specs.Acts.{Trapped, Next, Over}
use Rattle.comp_worlds.specs.Groups.{Endless, Config, Group, World}
use Rattle.comp_worlds.specs.Hosts.{hosted}
use Rattle.comp_frames.specs.Running.{running}
use Rattle.adapter_calls.specs.Handling.{KnowsKinds, map_to, OfKinds, AreOwned, lost}
use Rattle.adapter_calls.specs.Instance.{standing, with_both, IsQuiet}

-- the instance holds the routine's memory and handles, it is not closed, and no call is in progress in it
pub record IsAt (home : Home) (to : ℕ → ℕ) (s : State) (made : List Bool) (c : Config ℕ) : Type 0 where
  pub store : c.store ≡ store_with home s.memory made
  pub quiet : IsQuiet c.store
  pub handles : c.map ≡ map_to to s.table
  pub unclosed : c.closed ≡ false
  -- and none of its handles is borrowed
  pub owned : AreOwned s.table.entries

-- A routine that ends with an answer leaves its memory and its handles in the instance, and the host was told of the handles that it
-- dropped: in its own steps and one for each handle that it made or dropped.
abbrev pub RoutinesReturn : {S : Type 0} → HostStep S → Type 0
RoutinesReturn {S} h =
    (G : Group) (instance : ℕ) (numbers : Numbers) (to : ℕ → ℕ) → KnowsKinds G instance numbers to →
    (home : Home) (f params : ℕ) (state : State) (made : List Bool) (run : RoutineRun) (does : DoesCalled numbers home f params state made run) → OfKinds does.effects → run.end ≡ Answer →
    (w : World S) (c : Config ℕ) (s : S) → IsAt home to state made c → (n : ℕ) →
    running G (hosted h) Endless instance f (map core_value (take params state.locals)) (standing w instance c s) (does.steps + (length does.effects + n))
    ≡ Next (lost h G to does.effects s).seen n
    (standing w instance (with_both c (store_with home run.state.memory does.made') (map_to to run.state.table)) (lost h G to does.effects s).next) []

-- One that traps, or asks for a handle that it is refused, traps; the host was told of the handles that it had dropped. A step more is left
-- for the question that is refused.
abbrev pub RoutinesTrap : {S : Type 0} → HostStep S → Type 0
RoutinesTrap {S} h =
    (G : Group) (instance : ℕ) (numbers : Numbers) (to : ℕ → ℕ) → KnowsKinds G instance numbers to →
    (home : Home) (f params : ℕ) (state : State) (made : List Bool) (run : RoutineRun) (does : DoesCalled numbers home f params state made run) → OfKinds does.effects → run.end ≡ Trap →
    (w : World S) (c : Config ℕ) (s : S) → IsAt home to state made c → (n : ℕ) →
    running G (hosted h) Endless instance f (map core_value (take params state.locals)) (standing w instance c s) (does.steps + (length does.effects + (1 + n))) ≡ Over (lost h G to does.effects s).seen Trapped
