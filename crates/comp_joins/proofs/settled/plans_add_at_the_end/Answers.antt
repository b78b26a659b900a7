use Rattle.comp_joins.proofs.Growing.{item_grows, plan_grows}
use Rattle.comp_joins.proofs.settled.plans_add_at_the_end.Goals as goal

pub returns-clause-items : goal.returns-clause-items
returns-clause-items c = item_grows

pub returns-clause-plans : goal.returns-clause-plans
returns-clause-plans c = plan_grows
