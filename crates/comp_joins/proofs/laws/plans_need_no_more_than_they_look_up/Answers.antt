use Rattle.comp_joins.proofs.Regiven.{linked_among}
use Rattle.comp_joins.proofs.laws.plans_need_no_more_than_they_look_up.Goals as goal

pub returns : goal.returns
returns c = linked_among
