use Rattle.call_moments.proofs.LawsEnding.{last_first}
use Rattle.call_moments.proofs.loans.loans_end_last_first.Goals as goal

pub returns : goal.returns
returns c = last_first
