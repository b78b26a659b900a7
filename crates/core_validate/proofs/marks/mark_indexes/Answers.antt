use Rattle.std.proofs.Common.{◌≡◌, ◌∙◌, ◌+◌, ap, sym, drop}
use Rattle.core_validate.specs.Spaces.{marked}
use Rattle.core_validate.proofs.GatherLemmas.{indexes-step, indexes-end}
use Rattle.core_validate.proofs.marks.mark_indexes.Goals as goal

pub loop-n-preserved : goal.loop-n-preserved
loop-n-preserved c =
    ap (marked (drop (c.loop-n.n-index + 1) c.args.ns.now)) c.mark.ensures ∙ indexes-step c.args.ns.now c.loop-n.n-index c.loop-n.marks c.loop-n-test.true ∙ c.loop-n.invariant

pub returns : goal.returns
returns c = sym (indexes-end c.args.ns.now c.loop-n.n-index c.loop-n.marks c.loop-n-test.false) ∙ c.loop-n.invariant
