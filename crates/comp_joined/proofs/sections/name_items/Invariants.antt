use Rattle.std.proofs.Common.{length}
use Rattle.std.specs.List.{AllByRecursion}
use Rattle.comp_joined.specs.Form.{NamesAnItem}
use Rattle.comp_joined.proofs.sections.name_items.Given as goal

abbrev pub invariant-loop-first : goal.invariant-loop-first
invariant-loop-first l = AllByRecursion NamesAnItem l.rest → AllByRecursion NamesAnItem l.items

abbrev pub decreases-loop-first : goal.decreases-loop-first
decreases-loop-first l = length l.rest
