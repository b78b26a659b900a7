use Rattle.comp_joins.proofs.Standing.{settled}
use Rattle.comp_joins.proofs.settled.what_stands_is_settled.Goals as goal

pub returns : goal.returns
returns c = settled
