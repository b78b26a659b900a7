use Rattle.row_laws.proofs.Check.{check_equals}
use Rattle.row_laws.proofs.stream_rows.check_write_equals.Goals as goal

pub returns : goal.returns
returns g c = check_equals g.H.Host.step
