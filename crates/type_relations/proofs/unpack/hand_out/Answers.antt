use Rattle.std.proofs.Common.{◌∙◌}
use Rattle.comp_types.specs.Matching.{is_own}
use Rattle.comp_types.proofs.UnpackLemmas.{handed_goes, handed_stops}
use Rattle.type_relations.proofs.unpack.hand_out.Goals as goal

pub loop-i-preserved : goal.loop-i-preserved
loop-i-preserved c = record {
  met = handed_goes (is_own c.args.own.now) _ _ c.args.inside.now c.loop-i.i _ _ _ c.loop-i.invariant.met c.pair.ensures c.in_ok-hand_one.ensures.met c.if-not-branch.false;
  kept = c.in_ok-hand_one.ensures.kept ∙ c.loop-i.invariant.kept;
}

pub returns-then-not-branch : goal.returns-then-not-branch
returns-then-not-branch c = record {
  met = handed_stops (is_own c.args.own.now) _ _ c.args.inside.now c.loop-i.i _ _ _ c.loop-i.invariant.met c.pair.ensures c.in_ok-hand_one.ensures.met c.if-not-branch.true;
  kept = c.in_ok-hand_one.ensures.kept ∙ c.loop-i.invariant.kept;
}
