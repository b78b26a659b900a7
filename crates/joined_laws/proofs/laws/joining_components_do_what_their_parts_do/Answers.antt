use Rattle.joined_laws.proofs.Behaving.{joining_does_same}
use Rattle.joined_laws.proofs.laws.joining_components_do_what_their_parts_do.Goals as goal

pub returns : goal.returns
returns g c = joining_does_same g.H.Host.step
