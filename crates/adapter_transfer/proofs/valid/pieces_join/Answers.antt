use Rattle.adapter_transfer.proofs.ValidPieces.{joined}
use Rattle.adapter_transfer.proofs.valid.pieces_join.Goals as goal

pub returns : goal.returns
returns c = joined
