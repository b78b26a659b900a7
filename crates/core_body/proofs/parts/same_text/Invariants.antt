use Rattle.std.proofs.Common.{◌≤◌, length}
use Rattle.core_body.proofs.parts.same_text.Given as goal

abbrev pub invariant-loop-left : goal.invariant-loop-left
invariant-loop-left l = l.left ≤ length l.levels

abbrev pub decreases-loop-left : goal.decreases-loop-left
decreases-loop-left l = l.left
