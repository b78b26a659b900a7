use Rattle.std.proofs.Common.{refl, sym, ◌∷◌, slice_get, None}
use Rattle.wasm_ast.specs.declared.component.Alias.TheVariants.{Outer}
use Rattle.wasm_ast.specs.declared.component.OuterSort.TheVariants as outer_sorts
use Rattle.comp_types.specs.Definitions.{AnAlias}
use Rattle.comp_link.specs.Planned.{plan_items}
use Rattle.comp_link.proofs.Earlier.{followed-end}
use Rattle.comp_linking.specs.Walks.{spaces}
use Rattle.comp_linking.proofs.NameLemmas.{outer_type_stays}
use Rattle.comp_linking.proofs.StepLemmas.{stands_after, behind_item}
use Rattle.comp_linking.proofs.aliases.plan_outer_type.Goals as goal

pub returns : goal.returns
returns c = λ ms todo outer a valid h.
    let x = c.args.planner.now in
    let d = AnAlias (Outer outer_sorts.Type c.args.count c.args.index) in
    let y = c.define_outer_alias.new.scopes in
    behind_item ms todo outer a d x y x.inner None h
    (stands_after (spaces outer) a.space d y c.in_ok-define_outer_alias.field-0 (λ r b. b.0 (valid r)) (c.in_ok-define_outer_alias.ensures (spaces outer) a.space h.scopes))
    refl (outer_type_stays a.space (slice_get (a.space ∷ spaces outer) c.args.count) c.args.index) refl refl
    (λ ms' cs'. sym (followed-end (plan_items ms' cs' x.inner.items.items))) (λ more. refl)
