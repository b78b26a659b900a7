use Rattle.call_moments.proofs.Worlds.{instances_act}
use Rattle.call_moments.proofs.laws.instances_are_configurations.Goals as goal

pub returns : goal.returns
returns g c = instances_act g.H.Host.step
