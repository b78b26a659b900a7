use Rattle.std.proofs.Common.{inr}
use Rattle.virt_engine.proofs.PairReading.{large_at, no_script}
use Rattle.virt_engine.proofs.plugging.part_of.Goals as goal

pub returns-in-Err-OverLimit : goal.returns-in-Err-OverLimit
returns-in-Err-OverLimit c =
    inr (large_at _ _ c.in-Err-OverLimit.field-0 c.in-Err-OverLimit.what c.in-Err-OverLimit.value c.as_slice.ensures.value c.in-Err-OverLimit.field-0-is c.in-Err-OverLimit.ensures)

pub returns-in-Err-BadScript : goal.returns-in-Err-BadScript
returns-in-Err-BadScript c = absurd (no_script _ c.in-Err-BadScript.field-0 c.in-Err-BadScript.path c.in-Err-BadScript.field-0-is c.in-Err-BadScript.ensures)
