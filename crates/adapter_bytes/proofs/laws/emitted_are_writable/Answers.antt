use Rattle.adapter_bytes.proofs.EmittedLaws.{emitted_writable}
use Rattle.adapter_bytes.proofs.laws.emitted_are_writable.Goals as goal

pub returns : goal.returns
returns c = emitted_writable
