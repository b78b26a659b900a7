use Rattle.row_laws.proofs.Sockets.{keep_alive_enabled_equals}
use Rattle.row_laws.proofs.socket_rows.keep_alive_enabled_equals.Goals as goal

pub returns : goal.returns
returns g c = keep_alive_enabled_equals g.H.Host.step
