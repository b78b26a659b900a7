use Rattle.std.proofs.Common.{◌∙◌, ◌+◌, sym, subst, ap, ◌∷◌, ◌++◌, drop, List, map}
use Rattle.std.proofs.lemmas.Result.{on_ok_weaker}
use Rattle.std.proofs.lemmas.List.{drop_all}
use Rattle.wasm_ast.specs.declared.component.Section.{Section}
use Rattle.wasm_ast.specs.declared.module.Module.{Module}
use Rattle.comp_grammar.specs.Trees.{Part, Tree, CoreModule, plain, plain_section, plain_sections}
use Rattle.comp_grammar.proofs.PlainLemmas.{plain-Nested, plain-CoreInstances, plain-Instances, plain-Aliases, plain-Types, plain-Canons, plain-Imports, plain-Exports, plain-CoreModule, plain-Custom}
use Rattle.comp_types.specs.Declarations.{grouped}
use Rattle.comp_types.specs.Definitions.{ACoreInstance, AnInstance, AnAlias, ACanon, AnImport, AnExport, types_in}
use Rattle.comp_linking.specs.Modules.{modules_in}
use Rattle.comp_linking.specs.Walks.{at_entered, at_tree}
use Rattle.comp_linking.specs.Goes.{PlansAll, PlansPart, PlansTree}
use Rattle.comp_linking.proofs.RestLemmas.{SectionsLeft, sections_left, section_planned, no_section_left, next_section}
use Rattle.comp_linking.proofs.sections.+plan_sections.Goals as goal

-- ---- a component in the component

pub plan_nested-returns : goal.plan_nested-returns
plan_nested-returns t c = on_ok_weaker c.leave.result (λ k span ms todo outer a valid h.
    let tree = plain c.args.component.now in
    let inner = subst (λ (xs : List Section). PlansTree (plain_sections xs) c.enter.new.planner c.plan_sections.new.planner) c.as_slice.ensures.value c.in_ok-plan_sections.ensures in
    k ms todo outer a (at_tree (a ∷ outer) (at_entered a) tree) (inner ms todo (a ∷ outer) (at_entered a) valid (c.in_ok-enter.ensures ms (modules_in tree ++ todo) outer a h))) c.leave.ensures

-- ---- a section

pub plan_section-returns-in-CoreModule : goal.plan_section-returns-in-CoreModule
plan_section-returns-in-CoreModule t c = on_ok_weaker c.plan_module.result (λ k.
    subst (λ (p : Part). PlansPart p c.args.planner.now c.plan_module.new.planner) (sym (ap plain_section c.in-CoreModule.is ∙ plain-CoreModule c.in-CoreModule.field-0 c.in-CoreModule.module))
    (subst (λ (m : Module). PlansPart (CoreModule c.in-CoreModule.field-0 m) c.args.planner.now c.plan_module.new.planner) c.deref.ensures (k c.in-CoreModule.field-0))) c.plan_module.ensures

pub plan_section-returns-in-Nested : goal.plan_section-returns-in-Nested
plan_section-returns-in-Nested t c = on_ok_weaker c.plan_nested.result (λ k.
    subst (λ (p : Part). PlansPart p c.args.planner.now c.plan_nested.new.planner) (sym (ap plain_section c.in-Nested.is ∙ plain-Nested c.in-Nested.field-0 c.in-Nested.component)) (k c.in-Nested.field-0)) c.plan_nested.ensures

pub plan_section-returns-in-CoreInstances : goal.plan_section-returns-in-CoreInstances
plan_section-returns-in-CoreInstances t c = on_ok_weaker c.plan_all.result (λ k.
    subst (λ (p : Part). PlansPart p c.args.planner.now c.plan_all.new.planner) (sym (ap plain_section c.in-CoreInstances.is ∙ plain-CoreInstances c.in-CoreInstances.items))
    (subst (λ xs. PlansAll (map ACoreInstance xs) c.args.planner.now c.plan_all.new.planner) c.as_slice.ensures k)) c.plan_all.ensures

pub plan_section-returns-in-Instances : goal.plan_section-returns-in-Instances
plan_section-returns-in-Instances t c = on_ok_weaker c.plan_all-in-Instances.result (λ k.
    subst (λ (p : Part). PlansPart p c.args.planner.now c.plan_all-in-Instances.new.planner) (sym (ap plain_section c.in-Instances.is ∙ plain-Instances c.in-Instances.items))
    (subst (λ xs. PlansAll (map AnInstance xs) c.args.planner.now c.plan_all-in-Instances.new.planner) c.as_slice-in-Instances.ensures k)) c.plan_all-in-Instances.ensures

pub plan_section-returns-in-Aliases : goal.plan_section-returns-in-Aliases
plan_section-returns-in-Aliases t c = on_ok_weaker c.plan_all-in-Aliases.result (λ k.
    subst (λ (p : Part). PlansPart p c.args.planner.now c.plan_all-in-Aliases.new.planner) (sym (ap plain_section c.in-Aliases.is ∙ plain-Aliases c.in-Aliases.items))
    (subst (λ xs. PlansAll (map AnAlias xs) c.args.planner.now c.plan_all-in-Aliases.new.planner) c.as_slice-in-Aliases.ensures k)) c.plan_all-in-Aliases.ensures

pub plan_section-returns-in-Canons : goal.plan_section-returns-in-Canons
plan_section-returns-in-Canons t c = on_ok_weaker c.plan_all-in-Canons.result (λ k.
    subst (λ (p : Part). PlansPart p c.args.planner.now c.plan_all-in-Canons.new.planner) (sym (ap plain_section c.in-Canons.is ∙ plain-Canons c.in-Canons.items))
    (subst (λ xs. PlansAll (map ACanon xs) c.args.planner.now c.plan_all-in-Canons.new.planner) c.as_slice-in-Canons.ensures k)) c.plan_all-in-Canons.ensures

pub plan_section-returns-in-Imports : goal.plan_section-returns-in-Imports
plan_section-returns-in-Imports t c = on_ok_weaker c.plan_all-in-Imports.result (λ k.
    subst (λ (p : Part). PlansPart p c.args.planner.now c.plan_all-in-Imports.new.planner) (sym (ap plain_section c.in-Imports.is ∙ plain-Imports c.in-Imports.items))
    (subst (λ xs. PlansAll (map AnImport xs) c.args.planner.now c.plan_all-in-Imports.new.planner) c.as_slice-in-Imports.ensures k)) c.plan_all-in-Imports.ensures

pub plan_section-returns-in-Exports : goal.plan_section-returns-in-Exports
plan_section-returns-in-Exports t c = on_ok_weaker c.plan_all-in-Exports.result (λ k.
    subst (λ (p : Part). PlansPart p c.args.planner.now c.plan_all-in-Exports.new.planner) (sym (ap plain_section c.in-Exports.is ∙ plain-Exports c.in-Exports.items))
    (subst (λ xs. PlansAll (map AnExport xs) c.args.planner.now c.plan_all-in-Exports.new.planner) c.as_slice-in-Exports.ensures k)) c.plan_all-in-Exports.ensures

pub plan_section-returns-in-Types : goal.plan_section-returns-in-Types
plan_section-returns-in-Types t c = on_ok_weaker c.plan_types.result (λ k.
    subst (λ (p : Part). PlansPart p c.args.planner.now c.plan_types.new.planner) (sym (ap plain_section c.in-Types.is ∙ plain-Types c.in-Types.items))
    (subst (λ xs. PlansAll (types_in (grouped xs)) c.args.planner.now c.plan_types.new.planner) c.as_slice-in-Types.ensures k)) c.plan_types.ensures

pub plan_section-returns-in-Custom : goal.plan_section-returns-in-Custom
plan_section-returns-in-Custom t c =
    subst (λ (p : Part). PlansPart p c.args.planner.now c.args.planner.now) (sym (ap plain_section c.in-Custom.is ∙ plain-Custom c.in-Custom.field-0)) (λ ms todo outer a valid h. h)

-- ---- sections in order

pub plan_sections-loop-section-init : goal.plan_sections-loop-section-init
plan_sections-loop-section-init t c = λ ms todo outer a valid h. sections_left ms todo outer a (plain_sections c.args.sections.now) c.args.planner.now valid h

pub plan_sections-loop-section-preserved : goal.plan_sections-loop-section-preserved
plan_sections-loop-section-preserved t c = λ ms todo outer a valid h.
    let l = next_section ms todo outer a c.args.sections.now c.loop-section.section-index c.section-item.result c.loop-section.planner c.loop-section-test.true c.section-item.is (c.loop-section.invariant ms todo outer a valid h) in
    section_planned ms todo outer a (plain_sections c.args.sections.now) (plain_section c.section-item.result) (plain_sections (drop (c.loop-section.section-index + 1) c.args.sections.now)) c.loop-section.planner c.plan_section.new.planner l c.in_ok-plan_section.ensures

pub plan_sections-returns : goal.plan_sections-returns
plan_sections-returns t c = λ ms todo outer a valid h.
    no_section_left ms todo outer a (plain_sections c.args.sections.now) c.loop-section.planner
    (subst (λ (left : Tree). SectionsLeft ms todo outer a (plain_sections c.args.sections.now) left c.loop-section.planner)
    (ap plain_sections (drop_all c.loop-section.section-index c.args.sections.now c.loop-section-test.false)) (c.loop-section.invariant ms todo outer a valid h))
