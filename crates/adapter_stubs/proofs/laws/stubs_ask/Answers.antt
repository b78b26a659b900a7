use Rattle.adapter_stubs.proofs.Asking.{stubs_ask}
use Rattle.adapter_stubs.proofs.laws.stubs_ask.Goals as goal

pub returns : goal.returns
returns c = stubs_ask
