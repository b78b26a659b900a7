use Rattle.std.proofs.Common.{length, IsTrue, IfOk, slice_get, ◌≡◌, ℕ, ◌+◌, ◌-◌, ◌*◌, ◌<◌, ◌≤◌}
use Rattle.core_store.specs.Scene.{scene_of}
use Rattle.core_store.specs.Fine.{IsFine}
use Rattle.core_interp.specs.Session.{IsCallable}
use Rattle.routine_rows.specs.Going.{Goes}
use Rattle.routine_rows.proofs.calls.+go_on.Given as goal

-- proposed from what the function passes where it calls itself
abbrev pub decreases-go_on : goal.decreases-go_on
decreases-go_on l = length l.answers.now
