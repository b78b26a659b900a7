use Rattle.std.proofs.Common.{◌≡◌, length}
use Rattle.std.specs.Cmp.Lexicographic.{pointwise}
use Rattle.comp_types.specs.CoreMatching.{same_core}
use Rattle.comp_lifting.proofs.lifted_from.same_types.Given as goal

abbrev pub invariant-loop-one : goal.invariant-loop-one
invariant-loop-one l = pointwise same_core l.these l.others ≡ pointwise same_core l.left l.right

abbrev pub decreases-loop-one : goal.decreases-loop-one
decreases-loop-one l = length l.left
