use Rattle.adapter_bytes.proofs.RoutineLaws.{routine_spelled}
use Rattle.adapter_bytes.proofs.spelled.routines_are_spelled.Goals as goal

pub returns : goal.returns
returns c = routine_spelled
