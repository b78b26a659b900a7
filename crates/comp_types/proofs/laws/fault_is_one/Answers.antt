use Rattle.comp_types.proofs.VerdictLaws as laws
use Rattle.comp_types.proofs.laws.fault_is_one.Goals as goal

pub returns : goal.returns
returns c = laws.fault_is_one
