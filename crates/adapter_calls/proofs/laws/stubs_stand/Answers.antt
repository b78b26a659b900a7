use Rattle.adapter_calls.proofs.Standing.{stubs_stand_law}
use Rattle.adapter_calls.proofs.laws.stubs_stand.Goals as goal

pub returns : goal.returns
returns c = stubs_stand_law
