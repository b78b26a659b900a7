use Rattle.comp_joins.proofs.Same.{plugged_do_same}
use Rattle.comp_joins.proofs.laws.plugged_components_do_what_their_parts_do.Goals as goal

pub returns : goal.returns
returns g c = plugged_do_same g.H.Host.step
