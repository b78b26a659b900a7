use Rattle.adapter_stubs.proofs.Calling.{stubs_run}
use Rattle.adapter_stubs.proofs.laws.stubs_run.Goals as goal

pub returns : goal.returns
returns c = stubs_run
