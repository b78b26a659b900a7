use Rattle.adapter_transfer.proofs.ValidPieces.{whole_body}
use Rattle.adapter_transfer.proofs.valid.bodies_are_valid.Goals as goal

pub returns : goal.returns
returns c = whole_body
