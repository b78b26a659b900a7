use Rattle.virt_output.proofs.PieceLaws as laws
use Rattle.virt_output.proofs.pieces.what_is_written_is_read.Goals as goal

pub returns : goal.returns
returns c = laws.read_back
