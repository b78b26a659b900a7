use Rattle.std.proofs.Common.{◌++◌, List, drop}
use Rattle.wasm_ast.specs.Boxed.{Held}
use Rattle.wasm_ast.specs.declared.module.Module.{Module}
use Rattle.comp_grammar.specs.Trees.{plain_sections}
use Rattle.comp_types.specs.Validity.{IsValidTree}
use Rattle.comp_linking.specs.Modules.{modules_in}
use Rattle.comp_linking.specs.Walks.{At, spaces, Walks}
use Rattle.comp_linking.proofs.RestLemmas.{SectionsLeft}
use Rattle.comp_linking.proofs.sections.+plan_sections.Given as goal

abbrev pub invariant-plan_sections-loop-section : goal.invariant-plan_sections-loop-section
invariant-plan_sections-loop-section l =
    (ms todo : List (Held Module)) (outer : List At) (a : At) → IsValidTree (spaces outer) a.space (plain_sections l.sections) → Walks ms (modules_in (plain_sections l.sections) ++ todo) outer a l.fn.planner
    → SectionsLeft ms todo outer a (plain_sections l.sections) (plain_sections (drop l.section-index l.sections)) l.planner
