use Rattle.core_store.specs.Scene.{scene_of}
use Rattle.core_store.specs.Fine.{IsFine}
use Rattle.routine_rows.proofs.compiled.read_front.Given as goal

abbrev pub invariant-loop-place : goal.invariant-loop-place
invariant-loop-place l = IsFine (scene_of l.world.store.value)
