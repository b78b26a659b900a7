use Rattle.std.proofs.Common.{◌≡◌, map, take}
use Rattle.core_validate.specs.Spaces.{element_type}
use Rattle.core_validate.proofs.collect.element_types.Given as goal

abbrev pub invariant-loop-elements : goal.invariant-loop-elements
invariant-loop-elements l = l.list.items ≡ map element_type (take l.elements-index l.segments)
