use Rattle.row_laws.proofs.Now.{now_equals}
use Rattle.row_laws.proofs.clock_rows.fixed_now_equals.Goals as goal

pub returns : goal.returns
returns g c = now_equals g.H.Host.step
