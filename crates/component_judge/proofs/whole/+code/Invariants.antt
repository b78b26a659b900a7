use Rattle.std.proofs.Common.{◌≡◌, ◌+◌, ◌-◌, ◌^◌, ◌≤◌, drop}
use Rattle.comp_grammar.specs.Trees.{plain_sections}
use Rattle.component_judge.specs.Sizes.{capped, tree_code}
use Rattle.component_judge.proofs.whole.+code.Given as goal

abbrev pub invariant-sections_code-loop-section : goal.invariant-sections_code-loop-section
invariant-sections_code-loop-section l = record {
  total : capped (l.code + tree_code l.source (plain_sections (drop l.section-index l.sections))) ≡ capped (tree_code l.source (plain_sections l.sections));
  small : l.code ≤ 2 ^ 64 - 1;
}
