use Rattle.comp_types.proofs.EqualLaws.{same_goes, same_stops}
use Rattle.comp_types.proofs.substitution.are_same.Goals as goal

pub loop-i-preserved : goal.loop-i-preserved
loop-i-preserved c = same_goes c.args.by.now c.loop-i.i c.pair-resource.result c.loop-i.invariant c.pair-resource.ensures c.if-resource-partner.false

pub returns-then-resource-partner : goal.returns-then-resource-partner
returns-then-resource-partner c = same_stops c.args.by.now c.loop-i.i c.pair-resource.result c.loop-i.invariant c.pair-resource.ensures c.if-resource-partner.true
