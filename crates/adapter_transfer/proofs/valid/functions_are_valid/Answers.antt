use Rattle.adapter_transfer.proofs.Functions.{valid_function}
use Rattle.adapter_transfer.proofs.valid.functions_are_valid.Goals as goal

pub returns : goal.returns
returns c = valid_function
