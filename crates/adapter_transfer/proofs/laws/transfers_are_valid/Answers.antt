use Rattle.adapter_transfer.proofs.Pieces.{realloc_piece, reset_piece}
use Rattle.adapter_transfer.proofs.laws.transfers_are_valid.Goals as goal

pub returns : goal.returns
returns c = record {
  reallocs = λ l c labels global len. realloc_piece c labels global len l;
  resets = λ l c labels global. reset_piece c labels global l;
}
