-- A routine that ends with an answer leaves what it leaves.
use Rattle.std.proofs.Common.{◌≡◌, ℕ, ◌+◌, List, [], length, map, take, Bool}
use Rattle.core_store.specs.declared.value.CoreValue.{CoreValue}
use Rattle.adapter_code.specs.declared.state.CodeEnd.TheVariants.{Answer, Trap}
use Rattle.adapter_code.specs.Run.{State, RoutineRun}
use Rattle.adapter_compile.specs.Handles.{Numbers}
use Rattle.adapter_compile.specs.Does.{Home, store_with, core_value, DoesCalled}
use Rattle.host_port.specs.Hosts.{HostStep}
use Rattle.comp_worlds.specs.Acts.{Trapped, Next, Over}
use Rattle.comp_worlds.specs.Groups.{Endless, Config, Group, World}
use Rattle.comp_worlds.specs.Hosts.{hosted}
use Rattle.comp_frames.specs.Running.{running}
use Rattle.comp_frames.specs.RunsLaws.{Unfolds, GoesByItsRest}
use Rattle.adapter_calls.specs.Handling.{KnowsKinds, map_to, OfKinds, lost}
use Rattle.adapter_calls.specs.Instance.{standing, with_both}
use Rattle.adapter_calls.specs.Routines.{IsAt, RoutinesReturn, RoutinesTrap}
use Rattle.adapter_calls.proofs.Evaluations.{returns_by, traps_by}

module _ {S : Type 0} (h : HostStep S) (G : Group) (unfolds : Unfolds G (hosted h)) (by : GoesByItsRest G (hosted h)) (k : ℕ) (numbers : Numbers) (to : ℕ → ℕ) (know : KnowsKinds G k numbers to) where
  module _ (home : Home) (f params : ℕ) (state : State) (made : List Bool) (run : RoutineRun) (does : DoesCalled numbers home f params state made run) (kinds : OfKinds does.effects) (w : World S) (c : Config ℕ) (s : S) (at : IsAt home to state made c) where
    abbrev args : List CoreValue
    args = map core_value (take params state.locals)

    pub returns_so : run.end ≡ Answer → (n : ℕ) → running G (hosted h) Endless k f args (standing w k c s) (does.steps + (length does.effects + n))
        ≡ Next (lost h G to does.effects s).seen n (standing w k (with_both c (store_with home run.state.memory does.made') (map_to to run.state.table)) (lost h G to does.effects s).next) []
    returns_so ends n =
        returns_by h G unfolds by k numbers to know (store_with home state.memory made) (store_with home run.state.memory does.made') f args [] does.steps does.effects state.table run.state.table run.end does.goes kinds w c s at.store at.quiet at.handles at.unclosed at.owned ends n

    pub traps_so : run.end ≡ Trap → (n : ℕ) → running G (hosted h) Endless k f args (standing w k c s) (does.steps + (length does.effects + (1 + n))) ≡ Over (lost h G to does.effects s).seen Trapped
    traps_so ends n =
        traps_by h G unfolds by k numbers to know (store_with home state.memory made) (store_with home run.state.memory does.made') f args [] does.steps does.effects state.table run.state.table run.end does.goes kinds w c s at.store at.quiet at.handles at.unclosed at.owned ends n

pub routines_return_law : {S : Type 0} → (h : HostStep S) → ((G : Group) → Unfolds G (hosted h)) → ((G : Group) → GoesByItsRest G (hosted h)) → RoutinesReturn h
routines_return_law h unfolds by G k numbers to know home f params state made run does kinds ends w c s at n =
    returns_so h G (unfolds G) (by G) k numbers to know home f params state made run does kinds w c s at ends n

pub routines_trap_law : {S : Type 0} → (h : HostStep S) → ((G : Group) → Unfolds G (hosted h)) → ((G : Group) → GoesByItsRest G (hosted h)) → RoutinesTrap h
routines_trap_law h unfolds by G k numbers to know home f params state made run does kinds ends w c s at n =
    traps_so h G (unfolds G) (by G) k numbers to know home f params state made run does kinds w c s at ends n
