use Rattle.joined_laws.proofs.PluggingIn.{plugged_in_does_same}
use Rattle.joined_laws.proofs.laws.plugged_in_components_do_what_their_parts_do.Goals as goal

pub returns : goal.returns
returns g c = plugged_in_does_same g.H.Host.step
