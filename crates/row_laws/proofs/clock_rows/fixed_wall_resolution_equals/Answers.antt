use Rattle.row_laws.proofs.Wall.{wall_resolution_equals}
use Rattle.row_laws.proofs.clock_rows.fixed_wall_resolution_equals.Goals as goal

pub returns : goal.returns
returns g c = wall_resolution_equals g.H.Host.step
