-- A stub's function that asks no host returns, or traps.
use Rattle.std.proofs.Common.{◌≡◌, ℕ, ◌+◌, List, length, Bool}
use Rattle.adapter_code.specs.declared.state.CodeEnd.TheVariants.{Answer, Trap}
use Rattle.adapter_code.specs.Run.{State, RoutineRun}
use Rattle.adapter_compile.specs.Handles.{Numbers}
use Rattle.adapter_compile.specs.Does.{Home, store_with}
use Rattle.adapter_stubs.specs.declared.stub.Stub.{Stub}
use Rattle.adapter_stubs.specs.Calls.{arguments_in, flat_in, StubEnds}
use Rattle.host_port.specs.Hosts.{HostStep}
use Rattle.comp_worlds.specs.Acts.{Trapped, Next, Over}
use Rattle.comp_worlds.specs.Groups.{Endless, Config, Group, World}
use Rattle.comp_worlds.specs.Hosts.{hosted}
use Rattle.comp_frames.specs.Running.{running}
use Rattle.comp_frames.specs.RunsLaws.{Unfolds, GoesByItsRest}
use Rattle.adapter_calls.specs.Handling.{KnowsKinds, map_to, OfKinds, AreOwned, lost}
use Rattle.adapter_calls.specs.Instance.{standing, with_both}
use Rattle.adapter_calls.specs.Routines.{IsAt}
use Rattle.adapter_calls.specs.Stubs.{StubsReturn, StubsTrap}
use Rattle.adapter_calls.proofs.Evaluations.{owned_then, returns_by, traps_by}

module _ {S : Type 0} (h : HostStep S) (G : Group) (unfolds : Unfolds G (hosted h)) (by : GoesByItsRest G (hosted h)) (k : ℕ) (numbers : Numbers) (to : ℕ → ℕ) (know : KnowsKinds G k numbers to) where
  module _ (home : Home) (f : ℕ) (stub : Stub) (state : State) (made : List Bool) (run : RoutineRun) (ends : StubEnds numbers home f stub state made run) (kinds : OfKinds ends.effects) (w : World S) (c : Config ℕ) (s : S) (at : IsAt home to state made c) where
    pub stub_owned : run.end ≡ Answer → AreOwned run.state.table.entries
    stub_owned is =
        owned_then h G unfolds by k numbers to know (store_with home state.memory made) (store_with home run.state.memory ends.made') f (arguments_in stub state) (flat_in stub run.state) ends.steps ends.effects state.table run.state.table run.end ends.goes kinds w c s at.store at.quiet at.handles at.unclosed at.owned is

    pub stub_returns : run.end ≡ Answer → (n : ℕ) → running G (hosted h) Endless k f (arguments_in stub state) (standing w k c s) (ends.steps + (length ends.effects + n))
        ≡ Next (lost h G to ends.effects s).seen n (standing w k (with_both c (store_with home run.state.memory ends.made') (map_to to run.state.table)) (lost h G to ends.effects s).next) (flat_in stub run.state)
    stub_returns is n =
        returns_by h G unfolds by k numbers to know (store_with home state.memory made) (store_with home run.state.memory ends.made') f (arguments_in stub state) (flat_in stub run.state) ends.steps ends.effects state.table run.state.table run.end ends.goes kinds w c s at.store at.quiet at.handles at.unclosed at.owned is n

    pub stub_traps : run.end ≡ Trap → (n : ℕ) → running G (hosted h) Endless k f (arguments_in stub state) (standing w k c s) (ends.steps + (length ends.effects + (1 + n))) ≡ Over (lost h G to ends.effects s).seen Trapped
    stub_traps is n =
        traps_by h G unfolds by k numbers to know (store_with home state.memory made) (store_with home run.state.memory ends.made') f (arguments_in stub state) (flat_in stub run.state) ends.steps ends.effects state.table run.state.table run.end ends.goes kinds w c s at.store at.quiet at.handles at.unclosed at.owned is n

pub stubs_return_law : {S : Type 0} → (h : HostStep S) → ((G : Group) → Unfolds G (hosted h)) → ((G : Group) → GoesByItsRest G (hosted h)) → StubsReturn h
stubs_return_law h unfolds by G k numbers to know home f stub state made run ends kinds is w c s at n = stub_returns h G (unfolds G) (by G) k numbers to know home f stub state made run ends kinds w c s at is n

pub stubs_trap_law : {S : Type 0} → (h : HostStep S) → ((G : Group) → Unfolds G (hosted h)) → ((G : Group) → GoesByItsRest G (hosted h)) → StubsTrap h
stubs_trap_law h unfolds by G k numbers to know home f stub state made run ends kinds is w c s at n = stub_traps h G (unfolds G) (by G) k numbers to know home f stub state made run ends kinds w c s at is n
