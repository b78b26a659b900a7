use Rattle.adapter_bytes.proofs.Stubbing.{stubs_do}
use Rattle.adapter_bytes.proofs.emitted.stubs_do.Goals as goal

pub returns : goal.returns
returns c = stubs_do
