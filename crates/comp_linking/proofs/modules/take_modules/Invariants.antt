use Rattle.std.proofs.Common.{◌≡◌, ◌++◌, reverse}
use Rattle.comp_grammar.specs.Trees.{plain, plain_sections}
use Rattle.comp_linking.specs.Modules.{modules_in, weight}
use Rattle.comp_linking.proofs.modules.take_modules.Given as goal

abbrev pub invariant-loop-section : goal.invariant-loop-section
invariant-loop-section l = l.modules.items ++ reverse (modules_in (plain_sections l.sections.items)) ≡ reverse (modules_in (plain l.fn.component))

abbrev pub decreases-loop-section : goal.decreases-loop-section
decreases-loop-section l = weight (plain_sections l.sections.items)
