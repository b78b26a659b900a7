use Rattle.std.proofs.Common.{◌≡◌, ◌++◌, drop}
use Rattle.tree_table.specs.Orders.{keys_from}
use Rattle.tree_table.proofs.order.push_inner.Given as goal

abbrev pub invariant-loop-place : goal.invariant-loop-place
invariant-loop-place l = l.keys.items ++ keys_from l.tree l.place (drop l.place l.entries) ≡ l.fn.keys.items ++ keys_from l.tree 1 (drop 1 l.entries)
