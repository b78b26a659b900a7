use Rattle.table_bytes.proofs.Frees.{free-run}
use Rattle.table_bytes.proofs.laws.free_frees.Goals as goal

pub returns : goal.returns
returns c = free-run
