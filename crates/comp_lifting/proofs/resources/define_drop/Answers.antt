use Rattle.std.proofs.Common.{subst}
use Rattle.wasm_ast.specs.declared.component.Canon.TheVariants.{ResourceDrop}
use Rattle.wasm_ast.specs.declared.module.CoreFunc.{CoreFunc}
use Rattle.core_validate.specs.declared.item.CoreItem.TheVariants.{Func}
use Rattle.comp_types.specs.Spaces.{and_core_item}
use Rattle.comp_scopes.specs.Stands.{Stands}
use Rattle.comp_lifting.proofs.CanonLemmas.{broken_canon, valid_canon}
use Rattle.comp_lifting.proofs.resources.define_drop.Goals as goal

pub returns-in-Some : goal.returns-in-Some
returns-in-Some c = λ around s h k. broken_canon around s (ResourceDrop c.args.ty) c.args.scope.now c.in-Some.rule (c.in-Some.ensures around s h k)

pub returns-in_ok-add_core_func-in-None : goal.returns-in_ok-add_core_func-in-None
returns-in_ok-add_core_func-in-None c = λ around s h k.
    valid_canon around s (ResourceDrop c.args.ty) c.add_core_func.new.scope (c.in-None.ensures around s h k)
    (subst (λ (t : CoreFunc). Stands (and_core_item s (Func t)) c.add_core_func.new.scope) c.in_ok-func-in-None.ensures (c.in_ok-add_core_func-in-None.ensures s h))
