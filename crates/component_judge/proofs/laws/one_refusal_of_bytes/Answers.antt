use Rattle.component_judge.proofs.Refusals.{one_refusal, one_application_refusal}
use Rattle.component_judge.proofs.laws.one_refusal_of_bytes.Goals as goal

pub returns-clause-alone : goal.returns-clause-alone
returns-clause-alone c = one_refusal

pub returns-clause-listed : goal.returns-clause-listed
returns-clause-listed c = one_application_refusal
