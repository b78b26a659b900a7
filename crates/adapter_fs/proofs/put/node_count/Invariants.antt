use Rattle.std.proofs.Common.{◌-◌, ◌≤◌}
use Rattle.tree_table.specs.Tables.{count_of}
use Rattle.adapter_fs.proofs.put.node_count.Given as goal

abbrev pub invariant-nodes : goal.invariant-nodes
invariant-nodes l = l.count ≤ count_of l.table

abbrev pub decreases-nodes : goal.decreases-nodes
decreases-nodes l = count_of l.table - l.node
