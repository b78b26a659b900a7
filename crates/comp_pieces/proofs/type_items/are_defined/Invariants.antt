use Rattle.std.proofs.Common.{length}
use Rattle.std.specs.List.{AllByRecursion}
use Rattle.comp_pieces.specs.Typing.{IsDefined}
use Rattle.comp_pieces.proofs.type_items.are_defined.Given as goal

abbrev pub invariant-loop-first : goal.invariant-loop-first
invariant-loop-first l = AllByRecursion IsDefined l.rest → AllByRecursion IsDefined l.items

abbrev pub decreases-loop-first : goal.decreases-loop-first
decreases-loop-first l = length l.rest
