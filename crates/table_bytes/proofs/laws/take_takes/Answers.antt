use Rattle.table_bytes.proofs.Takes.{take-run}
use Rattle.table_bytes.proofs.laws.take_takes.Goals as goal

pub returns : goal.returns
returns c = take-run
