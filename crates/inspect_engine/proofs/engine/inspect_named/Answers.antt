use Rattle.inspect_engine.proofs.Inspecting.{inspected, refused}
use Rattle.inspect_engine.proofs.engine.inspect_named.Goals as goal

pub returns-in-Ok : goal.returns-in-Ok
returns-in-Ok g c = inspected _ _ _ _ _ _ c.in-Ok.text c.in-Ok.ensures c.put_text.ensures

pub returns-in-Err : goal.returns-in-Err
returns-in-Err g c = refused _ _ _ _ _ _ _ c.in-Err.ensures c.refuse.ensures.report c.refuse.ensures.silent
