use Rattle.std.proofs.Common.{◌≡◌, List, drop}
use Rattle.comp_grammar.specs.Trees.{plain_sections}
use Rattle.comp_types.specs.Spaces.{Space}
use Rattle.comp_defining.specs.Around.{StandAll}
use Rattle.comp_validate.proofs.TreeLemmas.{LeadsTree}
use Rattle.comp_validate.proofs.components.+judge_sections.Given as goal

abbrev pub invariant-judge_sections-loop-section : goal.invariant-judge_sections-loop-section
invariant-judge_sections-loop-section l =
    (around : List Space) → (s : Space) → StandAll around s l.fn.scopes → LeadsTree around s (plain_sections l.sections) (plain_sections (drop l.section-index l.sections)) l.number l.scopes
