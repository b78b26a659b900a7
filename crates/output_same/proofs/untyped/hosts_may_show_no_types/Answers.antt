use Rattle.output_same.proofs.Shown.{shows_untyped}
use Rattle.output_same.proofs.untyped.hosts_may_show_no_types.Goals as goal

pub returns : goal.returns
returns g c = shows_untyped g.H.Host.step
