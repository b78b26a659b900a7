use Rattle.comp_types.proofs.VerdictLaws as laws
use Rattle.comp_types.proofs.laws.valid_breaks_nothing.Goals as goal

pub returns : goal.returns
returns c = laws.valid_breaks_nothing
