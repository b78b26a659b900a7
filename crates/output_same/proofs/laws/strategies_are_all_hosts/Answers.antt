use Rattle.output_same.proofs.Same.{over_host}
use Rattle.output_same.proofs.laws.strategies_are_all_hosts.Goals as goal

pub returns : goal.returns
returns g c = over_host g.H.Host.step
