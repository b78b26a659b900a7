use Rattle.table_bytes.proofs.Zeros.{zeros-table}
use Rattle.table_bytes.proofs.laws.zeros_are_free.Goals as goal

pub returns : goal.returns
returns c = zeros-table
