use Rattle.std.proofs.Common.{sym, slice_get, ◌∷◌}
use Rattle.wasm_ast.specs.declared.component.OuterSort.TheVariants as sorts
use Rattle.comp_scopes.proofs.EachLemmas.{none_of, some_of}
use Rattle.comp_scopes.specs.Stands.{IsNested, Stands}
use Rattle.comp_defining.proofs.OuterLemmas.{no_scope, no_component, some_component}
use Rattle.comp_defining.proofs.outer.component_fault.Goals as goal

pub returns-in_default : goal.returns-in_default
returns-in_default c = λ around s h. sym (no_scope around s sorts.Component c.args.count c.args.index (none_of Stands (slice_get (s ∷ around) c.args.count) (c.in_default.ensures around s h)))

pub returns-in-None : goal.returns-in-None
returns-in-None c = λ around s h.
    let t = some_of Stands (slice_get (s ∷ around) c.args.count) c.in-Some.scope.now (c.in-Some.ensures around s h) in
    sym (no_component around s t.0 c.args.count c.args.index t.1 (none_of IsNested (slice_get t.0.components c.args.index) (c.in-None.ensures t.0 t.2)))

pub returns-in-Some-component_at : goal.returns-in-Some-component_at
returns-in-Some-component_at c = λ around s h.
    let t = some_of Stands (slice_get (s ∷ around) c.args.count) c.in-Some.scope.now (c.in-Some.ensures around s h) in
    let k = some_of IsNested (slice_get t.0.components c.args.index) c.in-Some-component_at.field-0.now (c.in-Some-component_at.ensures t.0 t.2) in
    sym (some_component around s t.0 c.args.count c.args.index k.0 t.1 k.1)
