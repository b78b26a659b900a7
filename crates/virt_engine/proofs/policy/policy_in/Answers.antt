use Rattle.virt_engine.proofs.PolicyLaws.{well_formed_due, reads_fault}
use Rattle.virt_engine.proofs.policy.policy_in.Goals as goal

pub returns-in-Ok : goal.returns-in-Ok
returns-in-Ok c = (c.in-Ok.ensures.gives, well_formed_due _ _ c.in-Ok.ensures.gives, c.in-Ok.ensures.kept)

pub returns-in-Err : goal.returns-in-Err
returns-in-Err c = reads_fault _ _ _ c.in-Err.ensures.gives c.refused_for.ensures
