use Rattle.comp_joins.proofs.AgreesNumbers.{valid_agree}
use Rattle.comp_joins.proofs.agrees.valid_components_agree.Goals as goal

pub returns : goal.returns
returns c = valid_agree
