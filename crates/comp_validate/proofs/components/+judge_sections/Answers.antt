use Rattle.std.proofs.Common.{◌≡◌, ◌∙◌, ◌+◌, ◌<◌, refl, sym, subst, ap, ◌∷◌, [], drop, List, ℕ, Some, None, length, get_or, arith, map}
use Rattle.std.proofs.lemmas.Result.{IfOk-weaker}
use Rattle.std.proofs.lemmas.List.{drop_all}
use Rattle.std.specs.Prelude.{Result, Ok, Err, IfOk}
use Rattle.wasm_ast.specs.declared.component.Section.{Section}
use Rattle.wasm_ast.specs.declared.module.Module.{Module}
use Rattle.comp_grammar.specs.Trees.{Part, Tree, CoreModule, Nested, More, plain, plain_section, plain_sections}
use Rattle.comp_grammar.proofs.PlainLemmas.{plain-Nested, plain-CoreInstances, plain-Instances, plain-Aliases, plain-Types, plain-Canons, plain-Imports, plain-Exports, plain-CoreModule, plain-Custom}
use Rattle.comp_types.specs.Added.{entered, after_tree}
use Rattle.comp_types.specs.Declarations.{grouped}
use Rattle.comp_types.specs.Definitions.{ACoreInstance, AnInstance, AnAlias, ACanon, AnImport, AnExport, types_in}
use Rattle.comp_defining.specs.Judged.{JudgedEach}
use Rattle.comp_validate.specs.Judged.{JudgedPart, JudgedTree}
use Rattle.comp_validate.proofs.PartLemmas.{part_core_instances, part_instances, part_aliases, part_types, part_canons, part_imports, part_exports, part_custom, nested_breaks, nested_valid}
use Rattle.comp_validate.proofs.TreeLemmas.{LeadsTree, leads_tree, next_section, section_more, section_breaks, tree_led}
use Rattle.comp_validate.proofs.components.+judge_sections.Goals as goal

-- ---- a component in the component

pub judge_nested-returns-in-Some : goal.judge_nested-returns-in-Some
judge_nested-returns-in-Some t c = λ around s span h.
    nested_breaks around s span (plain c.args.component.now) c.judge_sections.new.scopes c.judge_sections.new.scopes c.in-Some.field-0
    (subst (λ (xs : List Section). JudgedTree (s ∷ around) (entered s) (plain_sections xs) c.judge_sections.new.scopes (Some c.in-Some.field-0)) c.as_slice.ensures.value
    (subst (JudgedTree (s ∷ around) (entered s) (plain_sections c.as_slice.result.now) c.judge_sections.new.scopes) c.in-Some.is (c.in_ok-judge_sections.ensures (s ∷ around) (entered s) (c.in_ok-enter.ensures around s h))))

pub judge_nested-returns-in_ok-close_nested-in-None : goal.judge_nested-returns-in_ok-close_nested-in-None
judge_nested-returns-in_ok-close_nested-in-None t c = λ around s span h.
    let tree = plain c.args.component.now in
    let judged = subst (λ (xs : List Section). JudgedTree (s ∷ around) (entered s) (plain_sections xs) c.judge_sections.new.scopes None) c.as_slice.ensures.value
    (subst (JudgedTree (s ∷ around) (entered s) (plain_sections c.as_slice.result.now) c.judge_sections.new.scopes) c.in-None.is (c.in_ok-judge_sections.ensures (s ∷ around) (entered s) (c.in_ok-enter.ensures around s h))) in
    nested_valid around s span tree _ c.judge_sections.new.scopes judged (c.in_ok-close_nested-in-None.ensures around s (after_tree (s ∷ around) (entered s) tree) judged.1)

-- ---- a section

pub judge_section-returns-in-CoreModule : goal.judge_section-returns-in-CoreModule
judge_section-returns-in-CoreModule t c =
    IfOk-weaker c.define_module.result _ _ (λ rule k around s h.
    subst (λ (p : Part). JudgedPart around s p c.define_module.new.scopes rule) (sym (ap plain_section c.in-CoreModule.is ∙ plain-CoreModule c.in-CoreModule.field-0 c.in-CoreModule.judged))
    (subst (λ (m : Module). JudgedPart around s (CoreModule c.in-CoreModule.field-0 m) c.define_module.new.scopes rule) c.deref.ensures (k around s c.in-CoreModule.field-0 h))) c.define_module.ensures

pub judge_section-returns-in-Nested : goal.judge_section-returns-in-Nested
judge_section-returns-in-Nested t c =
    IfOk-weaker c.judge_nested.result _ _ (λ rule k around s h.
    subst (λ (p : Part). JudgedPart around s p c.judge_nested.new.scopes rule) (sym (ap plain_section c.in-Nested.is ∙ plain-Nested c.in-Nested.field-0 c.in-Nested.component))
    (k around s c.in-Nested.field-0 h)) c.judge_nested.ensures

pub judge_section-returns-in-CoreInstances : goal.judge_section-returns-in-CoreInstances
judge_section-returns-in-CoreInstances t c =
    IfOk-weaker c.define_all.result _ _ (λ rule k around s h.
    subst (λ (p : Part). JudgedPart around s p c.define_all.new.scopes rule) (sym (ap plain_section c.in-CoreInstances.is ∙ plain-CoreInstances c.in-CoreInstances.items))
    (part_core_instances around s c.in-CoreInstances.items c.define_all.new.scopes rule (subst (λ xs. JudgedEach around s (map ACoreInstance xs) c.define_all.new.scopes rule) c.as_slice.ensures (k around s h)))) c.define_all.ensures

pub judge_section-returns-in-Instances : goal.judge_section-returns-in-Instances
judge_section-returns-in-Instances t c =
    IfOk-weaker c.define_all-in-Instances.result _ _ (λ rule k around s h.
    subst (λ (p : Part). JudgedPart around s p c.define_all-in-Instances.new.scopes rule) (sym (ap plain_section c.in-Instances.is ∙ plain-Instances c.in-Instances.items))
    (part_instances around s c.in-Instances.items c.define_all-in-Instances.new.scopes rule (subst (λ xs. JudgedEach around s (map AnInstance xs) c.define_all-in-Instances.new.scopes rule) c.as_slice-in-Instances.ensures (k around s h)))) c.define_all-in-Instances.ensures

pub judge_section-returns-in-Aliases : goal.judge_section-returns-in-Aliases
judge_section-returns-in-Aliases t c =
    IfOk-weaker c.define_all-in-Aliases.result _ _ (λ rule k around s h.
    subst (λ (p : Part). JudgedPart around s p c.define_all-in-Aliases.new.scopes rule) (sym (ap plain_section c.in-Aliases.is ∙ plain-Aliases c.in-Aliases.items))
    (part_aliases around s c.in-Aliases.items c.define_all-in-Aliases.new.scopes rule (subst (λ xs. JudgedEach around s (map AnAlias xs) c.define_all-in-Aliases.new.scopes rule) c.as_slice-in-Aliases.ensures (k around s h)))) c.define_all-in-Aliases.ensures

pub judge_section-returns-in-Types : goal.judge_section-returns-in-Types
judge_section-returns-in-Types t c =
    IfOk-weaker c.define_types.result _ _ (λ rule k around s h.
    subst (λ (p : Part). JudgedPart around s p c.define_types.new.scopes rule) (sym (ap plain_section c.in-Types.is ∙ plain-Types c.in-Types.items))
    (part_types around s c.in-Types.items c.define_types.new.scopes rule (subst (λ xs. JudgedEach around s (types_in (grouped xs)) c.define_types.new.scopes rule) c.as_slice-in-Types.ensures (k around s h)))) c.define_types.ensures

pub judge_section-returns-in-Canons : goal.judge_section-returns-in-Canons
judge_section-returns-in-Canons t c =
    IfOk-weaker c.define_all-in-Canons.result _ _ (λ rule k around s h.
    subst (λ (p : Part). JudgedPart around s p c.define_all-in-Canons.new.scopes rule) (sym (ap plain_section c.in-Canons.is ∙ plain-Canons c.in-Canons.items))
    (part_canons around s c.in-Canons.items c.define_all-in-Canons.new.scopes rule (subst (λ xs. JudgedEach around s (map ACanon xs) c.define_all-in-Canons.new.scopes rule) c.as_slice-in-Canons.ensures (k around s h)))) c.define_all-in-Canons.ensures

pub judge_section-returns-in-Imports : goal.judge_section-returns-in-Imports
judge_section-returns-in-Imports t c =
    IfOk-weaker c.define_all-in-Imports.result _ _ (λ rule k around s h.
    subst (λ (p : Part). JudgedPart around s p c.define_all-in-Imports.new.scopes rule) (sym (ap plain_section c.in-Imports.is ∙ plain-Imports c.in-Imports.items))
    (part_imports around s c.in-Imports.items c.define_all-in-Imports.new.scopes rule (subst (λ xs. JudgedEach around s (map AnImport xs) c.define_all-in-Imports.new.scopes rule) c.as_slice-in-Imports.ensures (k around s h)))) c.define_all-in-Imports.ensures

pub judge_section-returns-in-Exports : goal.judge_section-returns-in-Exports
judge_section-returns-in-Exports t c =
    IfOk-weaker c.define_all-in-Exports.result _ _ (λ rule k around s h.
    subst (λ (p : Part). JudgedPart around s p c.define_all-in-Exports.new.scopes rule) (sym (ap plain_section c.in-Exports.is ∙ plain-Exports c.in-Exports.items))
    (part_exports around s c.in-Exports.items c.define_all-in-Exports.new.scopes rule (subst (λ xs. JudgedEach around s (map AnExport xs) c.define_all-in-Exports.new.scopes rule) c.as_slice-in-Exports.ensures (k around s h)))) c.define_all-in-Exports.ensures

pub judge_section-returns-in-Custom : goal.judge_section-returns-in-Custom
judge_section-returns-in-Custom t c = λ around s h.
    subst (λ (p : Part). JudgedPart around s p c.args.scopes.now None) (sym (ap plain_section c.in-Custom.is ∙ plain-Custom c.in-Custom.field-0)) (part_custom around s c.in-Custom.field-0 c.args.scopes.now h)

-- ---- sections in order

pub judge_sections-loop-section-init : goal.judge_sections-loop-section-init
judge_sections-loop-section-init t c = λ around s h. leads_tree around s (plain_sections c.args.sections.now) c.args.scopes.now h

pub judge_sections-loop-section-preserved : goal.judge_sections-loop-section-preserved
judge_sections-loop-section-preserved t c = λ around s h.
    let all = plain_sections c.args.sections.now in
    let left = plain_sections (drop (c.loop-section.section-index + 1) c.args.sections.now) in
    let part = plain_section c.section-item.result in
    let l = next_section around s c.args.sections.now c.loop-section.section-index c.section-item.result c.loop-section.number c.loop-section.scopes c.loop-section-test.true c.section-item.is (c.loop-section.invariant around s h) in
    let n : c.loop-section.number + 1 ≡ c.in-Some-checked_add.next = omega (arith, c.in-Some-checked_add.ensures) in
    subst (λ (n : ℕ). LeadsTree around s all left n c.judge_section.new.scopes) n
    (section_more around s all part left c.loop-section.number c.loop-section.scopes c.judge_section.new.scopes l
    (subst (JudgedPart around l.inner part c.judge_section.new.scopes) c.in_default.is (c.in_ok-rule.ensures around l.inner l.stand)))

pub judge_sections-returns-in-Some : goal.judge_sections-returns-in-Some
judge_sections-returns-in-Some t c = λ around s h.
    let all = plain_sections c.args.sections.now in
    let left = plain_sections (drop (c.loop-section.section-index + 1) c.args.sections.now) in
    let part = plain_section c.section-item.result in
    let l = next_section around s c.args.sections.now c.loop-section.section-index c.section-item.result c.loop-section.number c.loop-section.scopes c.loop-section-test.true c.section-item.is (c.loop-section.invariant around s h) in
    section_breaks around s all part left c.loop-section.number c.loop-section.scopes c.judge_section.new.scopes c.in-Some.rule l
    (subst (JudgedPart around l.inner part c.judge_section.new.scopes) c.in-Some.is (c.in_ok-rule.ensures around l.inner l.stand))

pub judge_sections-returns : goal.judge_sections-returns
judge_sections-returns t c = λ around s h.
    tree_led around s (plain_sections c.args.sections.now) c.loop-section.number c.loop-section.scopes
    (subst (λ (left : Tree). LeadsTree around s (plain_sections c.args.sections.now) left c.loop-section.number c.loop-section.scopes)
    (ap plain_sections (drop_all c.loop-section.section-index c.args.sections.now c.loop-section-test.false)) (c.loop-section.invariant around s h))
