use Rattle.row_laws.proofs.Stdout.{stdout_equals}
use Rattle.row_laws.proofs.stream_rows.ignored_stdout_equals.Goals as goal

pub returns : goal.returns
returns g c = stdout_equals g.H.Host.step
