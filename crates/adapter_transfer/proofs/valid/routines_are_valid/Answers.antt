use Rattle.adapter_transfer.proofs.Routines.{valid_routine}
use Rattle.adapter_transfer.proofs.valid.routines_are_valid.Goals as goal

pub returns : goal.returns
returns c = valid_routine
