use Rattle.adapter_bytes.proofs.Filling.{fill}
use Rattle.adapter_bytes.proofs.bodies.memories_are_filled.Goals as goal

pub returns : goal.returns
returns c = fill
