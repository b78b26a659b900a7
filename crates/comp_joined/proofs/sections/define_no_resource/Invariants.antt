use Rattle.std.proofs.Common.{length}
use Rattle.std.specs.List.{AllByRecursion}
use Rattle.comp_joined.specs.Form.{DefinesNoResource}
use Rattle.comp_joined.proofs.sections.define_no_resource.Given as goal

abbrev pub invariant-loop-first : goal.invariant-loop-first
invariant-loop-first l = AllByRecursion DefinesNoResource l.rest → AllByRecursion DefinesNoResource l.items

abbrev pub decreases-loop-first : goal.decreases-loop-first
decreases-loop-first l = length l.rest
