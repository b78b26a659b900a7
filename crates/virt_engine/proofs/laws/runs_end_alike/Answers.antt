use Rattle.virt_engine.proofs.Alike.{one_end, one_coming}
use Rattle.virt_engine.proofs.laws.runs_end_alike.Goals as goal

pub returns-clause-ends : goal.returns-clause-ends
returns-clause-ends c = one_end

pub returns-clause-calls : goal.returns-clause-calls
returns-clause-calls c = one_coming
