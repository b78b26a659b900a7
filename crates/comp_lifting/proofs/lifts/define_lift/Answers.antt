use Rattle.std.proofs.Common.{subst}
use Rattle.wasm_ast.specs.declared.component.Canon.TheVariants.{Lift}
use Rattle.wit_types.specs.Plain.{PlainFunc}
use Rattle.comp_types.specs.Items.{FuncItem}
use Rattle.comp_types.specs.Spaces.{and_item}
use Rattle.comp_scopes.specs.Stands.{Stands}
use Rattle.comp_lifting.proofs.CanonLemmas.{broken_canon, valid_canon}
use Rattle.comp_lifting.proofs.lifts.define_lift.Goals as goal

pub returns-in-Some : goal.returns-in-Some
returns-in-Some c = λ around s h k. broken_canon around s (Lift c.args.func c.args.options.now c.args.ty) c.args.scope.now c.in-Some.rule (c.in-Some.ensures around s h k)

pub returns-in_ok-add_func-in-None : goal.returns-in_ok-add_func-in-None
returns-in_ok-add_func-in-None c = λ around s h k.
    valid_canon around s (Lift c.args.func c.args.options.now c.args.ty) c.add_func.new.self (c.in-None.ensures around s h k)
    (subst (λ (t : PlainFunc). Stands (and_item s (FuncItem t)) c.add_func.new.self) (c.in_ok-known-in-None.ensures s h) (c.in_ok-add_func-in-None.ensures s h))
