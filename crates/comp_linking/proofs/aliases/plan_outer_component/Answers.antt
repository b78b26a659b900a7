use Rattle.std.proofs.Common.{refl, sym, subst, ◌∷◌, ◌++◌, slice_get, List}
use Rattle.std.specs.Prelude.{option_to_list}
use Rattle.wasm_ast.specs.declared.component.Alias.TheVariants.{Outer}
use Rattle.wasm_ast.specs.declared.component.OuterSort.TheVariants as outer_sorts
use Rattle.comp_types.specs.Spaces.{NestedComponent}
use Rattle.comp_types.specs.Definitions.{AnAlias}
use Rattle.comp_link.specs.Plans.{Plan, End, and_plan, followed}
use Rattle.comp_link.proofs.Earlier.{followed-end}
use Rattle.comp_linking.specs.Drafts.{IsDraft}
use Rattle.comp_linking.specs.Walks.{spaces, made}
use Rattle.comp_linking.specs.Names.{outer_plan, outer_known}
use Rattle.comp_linking.proofs.NameLemmas.{outer_component_with}
use Rattle.comp_linking.proofs.PartLemmas.{component_named}
use Rattle.comp_linking.proofs.StepLemmas.{stands_after}
use Rattle.comp_linking.proofs.aliases.plan_outer_component.Goals as goal

pub returns : goal.returns
returns c = λ ms todo outer a valid h.
    let x = c.args.planner.now in
    let cs = made ms x.components.items in
    let d = AnAlias (Outer outer_sorts.Component c.args.count c.args.index) in
    let y = c.define_outer_alias.new.scopes in
    let p = outer_plan (a ∷ outer) c.args.count c.args.index in
    let k = outer_known (a ∷ outer) c.args.count c.args.index in
    let draft = record x.inner { components = c.push_some.new.numbers } in
    let named = component_named ms cs a.scope a.space.components a.plan c.component_at-number.result p k x.inner draft h.inner c.in_ok-push_some.ensures (c.component_at-number.ensures ms todo outer a h) refl refl in
    record {
      scopes = stands_after (spaces outer) a.space d y c.in_ok-define_outer_alias.field-0 (λ r b. b.0 (valid r)) (c.in_ok-define_outer_alias.ensures (spaces outer) a.space h.scopes);
      rest = h.rest;
      inner = subst (λ (l : List NestedComponent). IsDraft ms cs (and_plan a.scope p) l (followed a.plan End) draft) (sym (outer_component_with a.space (slice_get (a.space ∷ spaces outer) c.args.count) c.args.index))
          (subst (λ (q : Plan). IsDraft ms cs (and_plan a.scope p) (a.space.components ++ option_to_list k) q draft) (sym (followed-end a.plan)) named);
      outer = h.outer;
    }
