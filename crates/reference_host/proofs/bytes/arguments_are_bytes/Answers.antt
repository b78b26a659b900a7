use Rattle.reference_host.proofs.BytesListedLaw.{typed_are_bytes}
use Rattle.reference_host.proofs.bytes.arguments_are_bytes.Goals as goal

pub returns : goal.returns
returns c = typed_are_bytes
