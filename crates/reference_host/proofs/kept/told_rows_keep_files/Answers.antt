use Rattle.reference_host.proofs.ToldLaws.{told_keeps}
use Rattle.reference_host.proofs.kept.told_rows_keep_files.Goals as goal

pub returns : goal.returns
returns c = told_keeps
