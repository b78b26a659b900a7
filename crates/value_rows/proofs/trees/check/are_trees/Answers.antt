use Rattle.std.proofs.Common.{◌≡◌, ◌+◌, ◌-◌, ◌<◌, ◌≤◌, List, length, drop, get_or, ap, subst, ◌∙◌, inl, inr, arith}
use Rattle.std.proofs.lemmas.Bool.{cases_lt}
use Rattle.std.proofs.lemmas.List.{get_or_read}
use Rattle.tree_table.specs.declared.entries.NamedTree.{NamedTree}
use Rattle.tree_table.specs.Trees.{IsTree, node_count}
use Rattle.value_rows.proofs.CheckLemmas.{counted, trees_from}
use Rattle.value_rows.proofs.trees.check.are_trees.Goals as goal

pub loop-tree-preserved : goal.loop-tree-preserved
loop-tree-preserved c =
    let ts = c.args.trees.now in
    let i = c.loop-tree.tree-index in
    let tree = c.tree-item.result in
    let inv = c.loop-tree.invariant in
    let within : i < length ts = c.loop-tree-test.true in
    let size : c.len-count.result ≡ length tree.entries = c.len-count.ensures in
    let room : length tree.entries ≤ c.loop-tree.left = omega (arith, c.if-count-left.false, size) in
    let good : IsTree tree.entries = c.in_ok-good.ensures c.if-not-good.false in
    let more = counted ts i c.loop-tree.left tree within c.tree-item.is room inv.counted in
    record {
      counted = ap (λ n. node_count ts + (c.loop-tree.left - n)) size ∙ more;
      each = λ t d less.
          elim (cases_lt t i) [
            | inl before ↦ inv.each t d before
            | inr here ↦
                let at : i ≡ t = omega arith in
                let is : tree ≡ get_or ts i d = get_or_read ts i tree within c.tree-item.is d in
                subst (λ k. IsTree (get_or ts k d).entries) at (subst (λ (x : NamedTree). IsTree x.entries) is good)
          ];
    }

pub returns : goal.returns
returns c = λ yes.
    let ts = c.args.trees.now in
    let inv = c.loop-tree.invariant in
    let all : c.loop-tree.tree-index ≡ length ts = omega (arith, c.loop-tree-test.false, c.loop-tree.auto.tree-index-end) in
    trees_from ts c.loop-tree.left (inv.counted ∙ ap (λ i. 65536 + node_count (drop i ts)) all) (λ t d less. inv.each t d (omega arith))
