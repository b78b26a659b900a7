use Rattle.output_same.proofs.Shown.{by_hosts}
use Rattle.output_same.proofs.untyped.doing_the_same_needs_no_types.Goals as goal

pub returns : goal.returns
returns g c = by_hosts g.G.Host.step g.H.Host.step
