use Rattle.comp_instances.proofs.Only.{no_own}
use Rattle.comp_instances.proofs.annotated.is_own_of.Goals as goal

pub returns-in_default : goal.returns-in_default
returns-in_default c = no_own c.args.resource c.args.ty.now c.in_default.not-Own
