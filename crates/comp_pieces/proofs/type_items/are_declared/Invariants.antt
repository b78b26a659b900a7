use Rattle.std.proofs.Common.{length}
use Rattle.std.specs.List.{AllByRecursion}
use Rattle.comp_pieces.specs.Typing.{IsDeclared}
use Rattle.comp_pieces.proofs.type_items.are_declared.Given as goal

abbrev pub invariant-loop-first : goal.invariant-loop-first
invariant-loop-first l = AllByRecursion IsDeclared l.rest → AllByRecursion IsDeclared l.items

abbrev pub decreases-loop-first : goal.decreases-loop-first
decreases-loop-first l = length l.rest
