use Rattle.inspect_engine.proofs.PolicyReading.{reads_fault}
use Rattle.inspect_engine.proofs.policy.policy_in.Goals as goal

pub returns-in-Ok : goal.returns-in-Ok
returns-in-Ok c = c.in-Ok.ensures.gives

pub returns-in-Err : goal.returns-in-Err
returns-in-Err c = reads_fault _ _ _ c.in-Err.ensures.gives c.refused_for.ensures
