use Rattle.joined_laws.proofs.Showing.{shown_does_same}
use Rattle.joined_laws.proofs.laws.joined_components_plugged_by_their_types_do_what_their_parts_do.Goals as goal

pub returns : goal.returns
returns g c = shown_does_same g.H.Host.step
