use Rattle.std.proofs.Common.{rules}
use Rattle.virt_engine.proofs.PairReading.{no_part, part_fetched, part_refused}
use Rattle.virt_engine.proofs.plugging.fetch_part.Goals as goal

pub returns-in_err-bytes : goal.returns-in_err-bytes
returns-in_err-bytes g c = no_part _ _ _ c.in_err-bytes.field-0.0 c.from_residual.result (search (rules, c.from_residual.ensures)) c.in_err-bytes.ensures

pub returns-in-Ok : goal.returns-in-Ok
returns-in-Ok g c = part_fetched _ _ _ _ c.in_ok-bytes.ensures c.in-Ok.part c.in-Ok.ensures

pub returns-in-Err : goal.returns-in-Err
returns-in-Err g c = part_refused _ _ _ _ c.in_ok-bytes.ensures c.in-Err.refusal c.in-Err.ensures
