use Rattle.comp_types.specs.Matching.{is_own}
use Rattle.comp_types.proofs.UnpackLemmas.{handed_goes, handed_stops}
use Rattle.plug_match.proofs.unpacking.hand_out.Goals as goal

pub loop-i-preserved : goal.loop-i-preserved
loop-i-preserved c = handed_goes (is_own c.args.own.now) _ _ c.args.inside.now c.loop-i.i _ _ _ c.loop-i.invariant c.pair.ensures c.in_ok-hand_one.ensures c.if-not-branch.false

pub returns-then-not-branch : goal.returns-then-not-branch
returns-then-not-branch c = handed_stops (is_own c.args.own.now) _ _ c.args.inside.now c.loop-i.i _ _ _ c.loop-i.invariant c.pair.ensures c.in_ok-hand_one.ensures c.if-not-branch.true
