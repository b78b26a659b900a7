use Rattle.std.proofs.Common.{ap, sym}
use Rattle.std.specs.Prelude.{is_some}
use Rattle.comp_types.specs.Matching.{is_own}
use Rattle.comp_types.proofs.UnpackLemmas.{paired_goes, paired_stops}
use Rattle.plug_match.proofs.unpacking.are_paired.Goals as goal

pub loop-i-preserved : goal.loop-i-preserved
loop-i-preserved c = paired_goes (is_own c.args.owned.now) (is_own c.args.own.now) _ _ c.args.inside.now c.loop-i.i _ _ _ c.loop-i.invariant c.pair.ensures c.in_ok-pair_one.ensures c.if-not-branch.false

pub returns-then-not-branch : goal.returns-then-not-branch
returns-then-not-branch c =
    sym (ap is_some (paired_stops (is_own c.args.owned.now) (is_own c.args.own.now) _ _ c.args.inside.now c.loop-i.i _ _ _ c.loop-i.invariant c.pair.ensures c.in_ok-pair_one.ensures c.if-not-branch.true))
