use Rattle.std.proofs.Common.{◌≡◌}
use Rattle.tree_table.specs.Stored.{numbers_upto}
use Rattle.tree_table.proofs.nodes.Nodes.numbers.Given as goal

abbrev pub invariant-loop-number : goal.invariant-loop-number
invariant-loop-number l = l.numbers.items ≡ numbers_upto l.number
