use Rattle.output_same.proofs.Strategies.{by_strategy}
use Rattle.output_same.proofs.laws.hosts_are_seen_by_their_strategies.Goals as goal

pub returns : goal.returns
returns g c = by_strategy g.H.Host.step
