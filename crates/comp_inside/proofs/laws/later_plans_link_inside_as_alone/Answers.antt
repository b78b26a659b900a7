use Rattle.comp_inside.proofs.Linked.{linked_inside}
use Rattle.comp_inside.proofs.laws.later_plans_link_inside_as_alone.Goals as goal

pub returns : goal.returns
returns c = linked_inside
