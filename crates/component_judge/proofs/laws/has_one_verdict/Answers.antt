use Rattle.component_judge.proofs.Verdicts.{one_verdict, one_application}
use Rattle.component_judge.proofs.laws.has_one_verdict.Goals as goal

pub returns-clause-alone : goal.returns-clause-alone
returns-clause-alone c = one_verdict

pub returns-clause-listed : goal.returns-clause-listed
returns-clause-listed c = one_application
