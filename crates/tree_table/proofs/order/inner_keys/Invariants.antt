use Rattle.std.proofs.Common.{◌≡◌, ◌++◌, drop}
use Rattle.tree_table.specs.Orders.{inner_from}
use Rattle.tree_table.proofs.order.inner_keys.Given as goal

abbrev pub invariant-loop-tree : goal.invariant-loop-tree
invariant-loop-tree l = l.keys.items ++ inner_from l.tree (drop l.tree l.trees) ≡ inner_from 0 l.trees
