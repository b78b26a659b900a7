use Rattle.adapter_transfer.proofs.Whole.{are_valid}
use Rattle.adapter_transfer.proofs.module_laws.modules_are_valid.Goals as goal

pub returns : goal.returns
returns c = are_valid
