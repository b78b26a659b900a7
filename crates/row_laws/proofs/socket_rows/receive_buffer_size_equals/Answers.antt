use Rattle.row_laws.proofs.Sockets.{udp_buffer_size_equals}
use Rattle.row_laws.proofs.socket_rows.receive_buffer_size_equals.Goals as goal

pub returns : goal.returns
returns g c = udp_buffer_size_equals g.H.Host.step
