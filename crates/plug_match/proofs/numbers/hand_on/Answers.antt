use Rattle.plug_match.proofs.PairSteps.{handed_goes, handed_stops}
use Rattle.plug_match.proofs.numbers.hand_on.Goals as goal

pub loop-i-preserved : goal.loop-i-preserved
loop-i-preserved c = handed_goes c.args.kinds.now _ _ c.args.pairs.now c.loop-i.i _ _ _ _ c.loop-i.invariant c.pair-resource.ensures c.in_ok-number.ensures c.in_ok-meet.ensures c.if-not-branch.false

pub returns-then-not-branch : goal.returns-then-not-branch
returns-then-not-branch c = handed_stops c.args.kinds.now _ _ c.args.pairs.now c.loop-i.i _ _ _ _ c.loop-i.invariant c.pair-resource.ensures c.in_ok-number.ensures c.in_ok-meet.ensures c.if-not-branch.true
