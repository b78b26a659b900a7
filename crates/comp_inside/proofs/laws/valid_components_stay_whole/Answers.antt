use Rattle.comp_inside.proofs.Whole.{valid_stay}
use Rattle.comp_inside.proofs.laws.valid_components_stay_whole.Goals as goal

pub returns : goal.returns
returns c = valid_stay
