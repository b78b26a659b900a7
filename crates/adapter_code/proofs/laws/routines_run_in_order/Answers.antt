use Rattle.adapter_code.proofs.Placed.{followed_runs}
use Rattle.adapter_code.proofs.laws.routines_run_in_order.Goals as goal

pub returns : goal.returns
returns c = followed_runs
