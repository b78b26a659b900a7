use Rattle.reference_host.proofs.RowLaws.{rows_keep}
use Rattle.reference_host.proofs.kept.rows_keep_files.Goals as goal

pub returns : goal.returns
returns c = rows_keep
