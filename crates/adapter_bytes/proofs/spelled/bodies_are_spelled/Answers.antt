use Rattle.adapter_bytes.proofs.RoutineLaws.{body_spelled}
use Rattle.adapter_bytes.proofs.spelled.bodies_are_spelled.Goals as goal

pub returns : goal.returns
returns c = body_spelled
