use Rattle.std.proofs.Common.{arith, sym, ◌∙◌}
use Rattle.core_memory.proofs.Memories.{count_yes, count_no}
use Rattle.core_memory.proofs.pages.count_made.Goals as goal
use Rattle.core_memory.proofs.pages.count_made.Goals.{then-is_made, else-is_made}

pub loop-page-preserved : goal.loop-page-preserved
loop-page-preserved c = elim c.if-is_made.branch [
  | then-is_made w ↦ (let e = count_yes c.args.pages.now c.loop-page.page-index c.page-item.result c.loop-page-test.true c.page-item.is (sym c.is_made.ensures.made ∙ w.if-is_made.true) in let n = w.count-is in let i = c.loop-page.invariant in omega arith)
  | else-is_made w ↦ (let e = count_no c.args.pages.now c.loop-page.page-index c.page-item.result c.loop-page-test.true c.page-item.is (sym c.is_made.ensures.made ∙ w.if-is_made.false) in let n = w.count-is in let i = c.loop-page.invariant in omega arith)
]
