use Rattle.std.proofs.Common.{sym, slice_get, ◌∷◌}
use Rattle.wasm_ast.specs.declared.component.OuterSort.TheVariants as sorts
use Rattle.comp_scopes.proofs.EachLemmas.{none_of, some_of}
use Rattle.comp_scopes.specs.Found.{IsKnownModule}
use Rattle.comp_scopes.specs.Stands.{Stands}
use Rattle.comp_defining.proofs.OuterLemmas.{no_scope, no_module, some_module}
use Rattle.comp_defining.proofs.outer.module_fault.Goals as goal

pub returns-in_default : goal.returns-in_default
returns-in_default c = λ around s h. sym (no_scope around s sorts.CoreModule c.args.count c.args.index (none_of Stands (slice_get (s ∷ around) c.args.count) (c.in_default.ensures around s h)))

pub returns-in-None : goal.returns-in-None
returns-in-None c = λ around s h.
    let t = some_of Stands (slice_get (s ∷ around) c.args.count) c.in-Some.scope.now (c.in-Some.ensures around s h) in
    sym (no_module around s t.0 c.args.count c.args.index t.1 (none_of IsKnownModule (slice_get t.0.core_modules c.args.index) (c.in-None.ensures t.0 t.2.core)))

pub returns-in-Some-module_at : goal.returns-in-Some-module_at
returns-in-Some-module_at c = λ around s h.
    let t = some_of Stands (slice_get (s ∷ around) c.args.count) c.in-Some.scope.now (c.in-Some.ensures around s h) in
    let k = some_of IsKnownModule (slice_get t.0.core_modules c.args.index) c.in-Some-module_at.field-0.now (c.in-Some-module_at.ensures t.0 t.2.core) in
    sym (some_module around s t.0 c.args.count c.args.index k.0 t.1 k.1)
