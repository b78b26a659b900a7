use Rattle.plug_match.proofs.PairSteps.{added_one}
use Rattle.plug_match.proofs.numbers.add_behind.Goals as goal

pub loop-i-preserved : goal.loop-i-preserved
loop-i-preserved c = added_one _ _ c.args.by.now _ c.loop-i.i _ c.loop-i.invariant c.pair-resource.ensures c.in_ok-push.ensures.ok
