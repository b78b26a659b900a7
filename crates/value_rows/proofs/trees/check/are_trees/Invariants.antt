use Rattle.std.proofs.Common.{◌≡◌, ℕ, ◌+◌, ◌<◌, drop, get_or}
use Rattle.tree_table.specs.declared.entries.NamedTree.{NamedTree}
use Rattle.tree_table.specs.Trees.{IsTree, node_count}
use Rattle.value_rows.proofs.trees.check.are_trees.Given as goal

abbrev pub invariant-loop-tree : goal.invariant-loop-tree
invariant-loop-tree l = record {
  counted : node_count l.trees + l.left ≡ 65536 + node_count (drop l.tree-index l.trees);
  each : (t : ℕ) (d : NamedTree) → t < l.tree-index → IsTree (get_or l.trees t d).entries;
}
