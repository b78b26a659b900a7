use Rattle.std.proofs.Common.{◌≡◌}
use Rattle.tree_table.specs.Orders.{roots_upto}
use Rattle.tree_table.proofs.order.root_keys.Given as goal

abbrev pub invariant-loop-tree : goal.invariant-loop-tree
invariant-loop-tree l = l.keys.items ≡ roots_upto l.tree
