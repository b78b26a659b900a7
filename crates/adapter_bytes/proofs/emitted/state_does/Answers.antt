use Rattle.adapter_bytes.proofs.Working.{does}
use Rattle.adapter_bytes.proofs.emitted.state_does.Goals as goal

pub returns : goal.returns
returns c = does
