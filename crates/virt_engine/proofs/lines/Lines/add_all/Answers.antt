use Rattle.virt_engine.proofs.Following.{seen_more, seen_all_lines}
use Rattle.virt_engine.proofs.lines.Lines.add_all.Goals as goal

pub loop-observation-preserved : goal.loop-observation-preserved
loop-observation-preserved c = seen_more _ _ _ _ _ _ c.loop-observation-test.true c.observation-item.is c.loop-observation.invariant c.in_ok-add.ensures

pub returns : goal.returns
returns c = seen_all_lines _ _ _ _ c.loop-observation-test.false c.loop-observation.invariant
