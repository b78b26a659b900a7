use Rattle.core_store.specs.Scene.{scene_of}
use Rattle.core_store.specs.Fine.{IsFine}
use Rattle.routine_rows.proofs.emitted.rows_hold.Given as goal

abbrev pub invariant-loop-line : goal.invariant-loop-line
invariant-loop-line g l = IsFine (scene_of l.both.store.value)
