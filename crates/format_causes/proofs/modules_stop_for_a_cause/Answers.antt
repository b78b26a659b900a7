use Rattle.format_causes.proofs.ModuleCauses as laws
use Rattle.format_causes.proofs.modules_stop_for_a_cause.Goals as goal

pub returns : goal.returns
returns c = laws.caused_core_module
