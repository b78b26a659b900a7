use Rattle.call_moments.proofs.Lending.{handles_stay}
use Rattle.call_moments.proofs.keeping.handles_stay_while_lent.Goals as goal

pub returns : goal.returns
returns c = handles_stay
