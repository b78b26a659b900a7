use Rattle.table_bytes.proofs.Own.{called_runs}
use Rattle.table_bytes.proofs.forms_laws.called_routines_run.Goals as goal

pub returns : goal.returns
returns c = called_runs
