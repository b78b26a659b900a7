use Rattle.comp_joins.proofs.Regiven.{linked_alike}
use Rattle.comp_joins.proofs.laws.plans_find_what_they_are_given.Goals as goal

pub returns : goal.returns
returns c = linked_alike
