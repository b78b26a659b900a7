use Rattle.comp_joins.proofs.Order.{valid_inside}
use Rattle.comp_joins.proofs.knows.valid_components_link_inside_as_alone.Goals as goal

pub returns : goal.returns
returns c = valid_inside
