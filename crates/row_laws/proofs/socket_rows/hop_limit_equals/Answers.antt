use Rattle.row_laws.proofs.Sockets.{hop_limit_equals}
use Rattle.row_laws.proofs.socket_rows.hop_limit_equals.Goals as goal

pub returns : goal.returns
returns g c = hop_limit_equals g.H.Host.step
