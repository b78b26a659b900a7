use Rattle.virt_engine.proofs.RunDue.{one_run_refusal, runs_stand}
use Rattle.virt_engine.proofs.laws.one_refusal_is_due.Goals as goal

pub returns-clause-one : goal.returns-clause-one
returns-clause-one c = one_run_refusal

pub returns-clause-none : goal.returns-clause-none
returns-clause-none c = runs_stand
