use Rattle.std.proofs.Common.{◌+◌}
use Rattle.tree_table.proofs.nodes.Nodes.+path_order.Given as goal

abbrev pub decreases-path_order : goal.decreases-path_order
decreases-path_order l = l.a + l.b
