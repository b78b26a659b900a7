use Rattle.comp_joins.proofs.Passing.{pass_alike}
use Rattle.comp_joins.proofs.settled.handles_pass_alike.Goals as goal

pub returns : goal.returns
returns c = pass_alike
