use Rattle.comp_inside.proofs.Inside.{linked_inside}
use Rattle.comp_inside.proofs.wraps.plans_link_inside_as_alone.Goals as goal

pub returns : goal.returns
returns c = linked_inside
