use Rattle.std.proofs.Common.{ap, sym}
use Rattle.std.specs.Prelude.{is_some}
use Rattle.wasi_match.proofs.KindLaws.{turned_goes, turned_stops}
use Rattle.wasi_match.proofs.kinds.are_apart.Goals as goal

pub loop-i-preserved : goal.loop-i-preserved
loop-i-preserved c = turned_goes _ _ c.args.by.now c.loop-i.i _ _ _ c.loop-i.invariant c.pair-resource.ensures c.in_ok-meet.ensures c.if-not-branch.false

pub returns-then-not-branch : goal.returns-then-not-branch
returns-then-not-branch c = sym (ap is_some (turned_stops _ _ c.args.by.now c.loop-i.i _ _ _ c.loop-i.invariant c.pair-resource.ensures c.in_ok-meet.ensures c.if-not-branch.true))
