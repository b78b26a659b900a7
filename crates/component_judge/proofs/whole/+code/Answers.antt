use Rattle.std.proofs.Common.{arith}
use Rattle.component_judge.proofs.Counting.{tree_cut, tree_end}
use Rattle.component_judge.proofs.whole.+code.Goals as goal

pub sections_code-loop-section-preserved : goal.sections_code-loop-section-preserved
sections_code-loop-section-preserved t c =
    let cut = tree_cut c.args.source.now c.args.sections.now c.loop-section.section-index c.section-item.result c.loop-section-test.true c.section-item.is in
    record { total = omega (arith, cut, c.loop-section.invariant.total); small = omega arith }

pub sections_code-returns : goal.sections_code-returns
sections_code-returns t c =
    let end = tree_end c.args.source.now c.args.sections.now c.loop-section.section-index c.loop-section-test.false in
    omega (arith, end, c.loop-section.invariant.total, c.loop-section.invariant.small)
