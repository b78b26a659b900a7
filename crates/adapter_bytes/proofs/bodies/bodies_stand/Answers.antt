use Rattle.adapter_bytes.proofs.Standing.{stands}
use Rattle.adapter_bytes.proofs.bodies.bodies_stand.Goals as goal

pub returns : goal.returns
returns c = stands
