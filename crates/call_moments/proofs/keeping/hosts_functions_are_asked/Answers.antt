use Rattle.call_moments.proofs.LawsStoring.{functions_asked}
use Rattle.call_moments.proofs.keeping.hosts_functions_are_asked.Goals as goal

pub returns : goal.returns
returns c = functions_asked
