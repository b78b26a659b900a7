use Rattle.std.proofs.Common.{◌≡◌, drop}
use Rattle.core_validate.specs.Spaces.{marked}
use Rattle.core_validate.proofs.marks.mark_indexes.Given as goal

abbrev pub invariant-loop-n : goal.invariant-loop-n
invariant-loop-n l = marked (drop l.n-index l.ns) l.marks ≡ marked l.ns l.fn.marks
