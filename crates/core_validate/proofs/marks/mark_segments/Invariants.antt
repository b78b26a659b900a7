use Rattle.std.proofs.Common.{◌≡◌, drop}
use Rattle.core_validate.specs.Gather.{gather}
use Rattle.core_validate.specs.Spaces.{marked, element_functions}
use Rattle.core_validate.proofs.marks.mark_segments.Given as goal

abbrev pub invariant-loop-elements : goal.invariant-loop-elements
invariant-loop-elements l = marked (gather element_functions (drop l.elements-index l.segments)) l.marks ≡ marked (gather element_functions l.segments) l.fn.marks
