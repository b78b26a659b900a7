use Rattle.virt_engine.proofs.PairRuns.{plug_finished, plug_refused}
use Rattle.virt_engine.proofs.plugging.run_plug.Goals as goal

pub returns-in-Ok : goal.returns-in-Ok
returns-in-Ok g c = plug_finished _ _ _ _ _ _ _ _ c.in-Ok.ensures c.finish.ensures

pub returns-in-Err : goal.returns-in-Err
returns-in-Err g c = plug_refused _ _ _ _ _ _ _ c.in-Err.ensures c.refuse.ensures.report c.refuse.ensures.silent
