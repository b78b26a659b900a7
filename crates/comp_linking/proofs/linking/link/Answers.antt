use Rattle.std.proofs.Common.{◌∙◌, ap, subst, List, []}
use Rattle.wasm_ast.specs.declared.component.Section.{Section}
use Rattle.comp_grammar.specs.Trees.{plain, plain_sections}
use Rattle.comp_linking.specs.Modules.{modules_in}
use Rattle.comp_linking.specs.Walks.{at_root, at_tree}
use Rattle.comp_linking.specs.Goes.{PlansTree}
use Rattle.comp_linking.proofs.LeadLemmas.{tree_space}
use Rattle.comp_linking.proofs.LinkLemmas.{ended, same_plan, plan_found, group_found}
use Rattle.comp_linking.proofs.linking.link.Goals as goal

pub returns-clause-plan : goal.returns-clause-plan
returns-clause-plan c =
    let tree = plain c.args.component in
    let y = c.plan_sections.new.planner in
    let step = subst (λ (xs : List Section). PlansTree (plain_sections xs) c.root-planner.result y) c.as_slice.ensures.value c.in_ok-plan_sections.ensures in
    let end = ended tree c.root-planner.result y c.requires (c.root-planner.ensures (modules_in tree)) step in
    same_plan c.in_ok-modules.modules (modules_in tree) c.new-components.result y.components.items c.new-items.result y.inner.items.items c.in_ok-modules.ensures c.new-components.ensures c.new-items.ensures ∙ plan_found tree y end

pub returns-clause-imports : goal.returns-clause-imports
returns-clause-imports c =
    let tree = plain c.args.component in
    let y = c.plan_sections.new.planner in
    let step = subst (λ (xs : List Section). PlansTree (plain_sections xs) c.root-planner.result y) c.as_slice.ensures.value c.in_ok-plan_sections.ensures in
    let end = ended tree c.root-planner.result y c.requires (c.root-planner.ensures (modules_in tree)) step in
    let stands = c.into_inner.ensures [] (at_tree [] at_root tree).space end.scopes in
    c.into_entries-imports.ensures (at_tree [] at_root tree).space.imports stands.rest.imports ∙ ap (λ s. s.imports) (tree_space [] at_root tree)

pub returns-clause-group : goal.returns-clause-group
returns-clause-group c = group_found (plain c.args.component) (record { modules = c.in_ok-modules.modules; components = c.new-components.result; items = c.new-items.result; imports = c.into_entries-imports.result }) (returns-clause-plan c) (returns-clause-imports c)
