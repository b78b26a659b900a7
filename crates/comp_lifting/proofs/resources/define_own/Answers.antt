use Rattle.std.proofs.Common.{subst}
use Rattle.wasm_ast.specs.declared.component.Canon.TheVariants.{ResourceNew, ResourceRep}
use Rattle.wasm_ast.specs.declared.module.CoreFunc.{CoreFunc}
use Rattle.core_validate.specs.declared.item.CoreItem.TheVariants.{Func}
use Rattle.comp_types.specs.Spaces.{and_core_item}
use Rattle.comp_scopes.specs.Stands.{Stands}
use Rattle.comp_lifting.proofs.CanonLemmas.{broken_canon, valid_canon}
use Rattle.comp_lifting.proofs.resources.define_own.Goals as goal

pub returns-in-Some-clause-new : goal.returns-in-Some-clause-new
returns-in-Some-clause-new c = λ around s h k. broken_canon around s (ResourceNew c.args.ty) c.args.scope.now c.in-Some.rule (c.in-Some.ensures.new around s h k)

pub returns-in-Some-clause-rep : goal.returns-in-Some-clause-rep
returns-in-Some-clause-rep c = λ around s h k. broken_canon around s (ResourceRep c.args.ty) c.args.scope.now c.in-Some.rule (c.in-Some.ensures.rep around s h k)

pub returns-in_ok-add_core_func-in-None-clause-new : goal.returns-in_ok-add_core_func-in-None-clause-new
returns-in_ok-add_core_func-in-None-clause-new c = λ around s h k.
    valid_canon around s (ResourceNew c.args.ty) c.add_core_func.new.scope (c.in-None.ensures.new around s h k)
    (subst (λ (t : CoreFunc). Stands (and_core_item s (Func t)) c.add_core_func.new.scope) c.in_ok-func-in-None.ensures (c.in_ok-add_core_func-in-None.ensures s h))

pub returns-in_ok-add_core_func-in-None-clause-rep : goal.returns-in_ok-add_core_func-in-None-clause-rep
returns-in_ok-add_core_func-in-None-clause-rep c = λ around s h k.
    valid_canon around s (ResourceRep c.args.ty) c.add_core_func.new.scope (c.in-None.ensures.rep around s h k)
    (subst (λ (t : CoreFunc). Stands (and_core_item s (Func t)) c.add_core_func.new.scope) c.in_ok-func-in-None.ensures (c.in_ok-add_core_func-in-None.ensures s h))
