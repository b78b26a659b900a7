use Rattle.virt_engine.proofs.TaskLaws.{all_put, put_broken}
use Rattle.virt_engine.proofs.running.put_shown.Goals as goal

pub returns-in-Ok : goal.returns-in-Ok
returns-in-Ok g c = all_put _ _ _ _ c.put.ensures.seen c.ended_as.ensures c.in-Ok.ensures.puts

pub returns-in-Err : goal.returns-in-Err
returns-in-Err g c = put_broken _ _ _ _ c.put.ensures.seen c.in-Err.ensures.puts
