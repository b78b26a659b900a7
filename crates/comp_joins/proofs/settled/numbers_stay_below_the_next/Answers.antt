use Rattle.comp_joins.proofs.Below.{stay_below}
use Rattle.comp_joins.proofs.settled.numbers_stay_below_the_next.Goals as goal

pub returns : goal.returns
returns c = stay_below
