use Rattle.row_laws.proofs.Wall.{wall_now_equals}
use Rattle.row_laws.proofs.clock_rows.fixed_wall_now_equals.Goals as goal

pub returns : goal.returns
returns g c = wall_now_equals g.H.Host.step
