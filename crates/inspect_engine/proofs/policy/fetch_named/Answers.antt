use Rattle.inspect_engine.proofs.PolicyReading.{asked_policy, asked_refused}
use Rattle.inspect_engine.proofs.policy.fetch_named.Goals as goal

pub returns-in-Ok : goal.returns-in-Ok
returns-in-Ok g c = asked_policy _ _ _ _ c.in-Ok.ensures

pub returns-in-Err : goal.returns-in-Err
returns-in-Err g c = asked_refused _ _ _ _ c.in-Err.ensures
