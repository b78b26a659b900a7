use Rattle.std.proofs.Common.{◌≡◌, ◌+◌, ◌-◌, ◌≤◌, ◌*◌, ℕ, List, length}
use Rattle.core_store.specs.Config.{Reply}
use Rattle.core_store.specs.Scene.{scene_of}
use Rattle.core_interp.specs.Run.{goes, ahead, outermost, Ready}
use Rattle.core_interp.proofs.running.Running.run_on.Given as goal

abbrev pub invariant-loop-scope : goal.invariant-loop-scope
invariant-loop-scope l = record {
  leads : (rs : List Reply) (n : ℕ) → ahead (goes l.fn.self l.fn.store) (l.fn.budget - l.budget) rs n ≡ goes l.self l.store rs n;
  budget : l.budget ≤ l.fn.budget;
  ready : Ready l.self l.store;
  entry : outermost l.self ≡ outermost l.fn.self;
  scene : scene_of l.fn.store ≡ scene_of l.store;
}

abbrev pub decreases-loop-scope : goal.decreases-loop-scope
decreases-loop-scope l = 2 * l.budget + length l.self.controls.items
