use Rattle.comp_joins.proofs.Same.{joined_do_same}
use Rattle.comp_joins.proofs.laws.joined_components_do_what_their_parts_do.Goals as goal

pub returns : goal.returns
returns g c = joined_do_same g.H.Host.step
