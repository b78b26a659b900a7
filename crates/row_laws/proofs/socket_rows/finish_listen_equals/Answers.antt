use Rattle.row_laws.proofs.Sockets.{finish_listen_equals}
use Rattle.row_laws.proofs.socket_rows.finish_listen_equals.Goals as goal

pub returns : goal.returns
returns g c = finish_listen_equals g.H.Host.step
