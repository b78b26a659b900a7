use Rattle.comp_inside.proofs.Components.{components_inside}
use Rattle.comp_inside.proofs.laws.components_link_inside_as_alone.Goals as goal

pub returns : goal.returns
returns c = components_inside
