use Rattle.virt_engine.proofs.TaskLaws.{runs_on, runs_not}
use Rattle.virt_engine.proofs.running.run_task.Goals as goal

pub returns-in-Ok : goal.returns-in-Ok
returns-in-Ok g c = runs_on _ _ _ _ _ _ _ c.in-Ok.ensures c.put_shown.ensures

pub returns-in-Err : goal.returns-in-Err
returns-in-Err g c = runs_not _ _ _ _ _ _ _ c.in-Err.ensures c.refuse.ensures.report c.refuse.ensures.silent
