use Rattle.row_laws.proofs.Arguments.{arguments_equals}
use Rattle.row_laws.proofs.environment_rows.given_arguments_equal.Goals as goal

pub returns : goal.returns
returns g c = arguments_equals g.H.Host.step
