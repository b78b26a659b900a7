use Rattle.std.proofs.Common.{◌≡◌, drop, length}
use Rattle.std.specs.Cmp.Lexicographic.{pointwise}
use Rattle.comp_types.specs.Items.{same_name}
use Rattle.comp_types.proofs.value_matching.same_labels.Given as goal

abbrev pub invariant-loop-i : goal.invariant-loop-i
invariant-loop-i l = (length l.a ≡ length l.b) × (pointwise same_name l.a l.b ≡ pointwise same_name (drop l.i l.a) (drop l.i l.b))
