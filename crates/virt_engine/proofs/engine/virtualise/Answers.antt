use Rattle.virt_engine.proofs.Runs.{ran_refuse, ran_finish}
use Rattle.virt_engine.proofs.engine.virtualise.Goals as goal

pub returns-in-Ok : goal.returns-in-Ok
returns-in-Ok g c = ran_finish _ _ _ _ _ _ _ _ c.in-Ok.ensures c.finish.ensures

pub returns-in-Err : goal.returns-in-Err
returns-in-Err g c = ran_refuse _ _ _ _ _ _ _ c.in-Err.ensures c.refuse.ensures.report c.refuse.ensures.silent
