use Rattle.virt_engine.proofs.Counting.{counted_all, counted_next}
use Rattle.virt_engine.proofs.tally.Tally.count_all.Goals as goal

pub loop-observation-preserved : goal.loop-observation-preserved
loop-observation-preserved c = counted_next _ _ _ _ _ _ c.loop-observation-test.true c.observation-item.is c.loop-observation.invariant c.in_ok-count.ensures

pub returns : goal.returns
returns c = counted_all _ _ _ _ c.loop-observation-test.false c.loop-observation.invariant
