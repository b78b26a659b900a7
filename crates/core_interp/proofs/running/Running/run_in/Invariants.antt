use Rattle.std.proofs.Common.{◌≡◌, ◌+◌, ◌-◌, ◌*◌, ◌≤◌, ℕ, List, length}
use Rattle.core_store.specs.Config.{Reply}
use Rattle.core_store.specs.Scene.{scene_of}
use Rattle.core_interp.specs.Run.{goes, ahead, outermost, Ready}
use Rattle.core_interp.proofs.running.Running.run_in.Given as goal

abbrev pub invariant-loop-flow : goal.invariant-loop-flow
invariant-loop-flow l = record {
  leads : (rs : List Reply) (n : ℕ) → ahead (goes l.fn.self l.fn.store) (l.fn.budget - l.left) rs n ≡ goes l.self l.store rs n;
  budget : l.left ≤ l.fn.budget;
  ready : Ready l.self l.store;
  entry : outermost l.self ≡ outermost l.fn.self;
  scene : scene_of l.fn.store ≡ scene_of l.store;
  function : l.self.function ≡ l.fn.self.function;
  falls : 2 * l.left + length l.self.controls.items ≤ 2 * l.fn.budget + length l.fn.self.controls.items;
}

abbrev pub decreases-loop-flow : goal.decreases-loop-flow
decreases-loop-flow l = 2 * l.left + length l.self.controls.items
