use Rattle.table_bytes.proofs.Fine.{well_formed_is}
use Rattle.table_bytes.proofs.forms_laws.well_formed_routines_pass.Goals as goal

pub returns : goal.returns
returns c = well_formed_is
