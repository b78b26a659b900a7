use Rattle.comp_joins.proofs.Order.{known_in_order}
use Rattle.comp_joins.proofs.knows.plans_know_in_order.Goals as goal

pub returns : goal.returns
returns c = known_in_order
