use Rattle.std.proofs.Common.{arith}
use Rattle.value_rows.proofs.CheckLemmas.{tree_from}
use Rattle.value_rows.proofs.trees.check.are_a_tree.Goals as goal

pub returns : goal.returns
returns c = λ yes.
    let inv = c.loop-i.invariant in
    let end = c.loop-i-test.false in
    tree_from c.args.entries.now inv.root (λ k some less. inv.fit k some (omega arith))
