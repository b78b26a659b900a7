use Rattle.comp_instances.proofs.Only.{no_borrow}
use Rattle.comp_instances.proofs.annotated.is_borrow_of.Goals as goal

pub returns-in_default : goal.returns-in_default
returns-in_default c = λ name rest. no_borrow c.args.resource name rest c.args.ty.now c.in_default.not-Borrow
