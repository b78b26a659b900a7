use Rattle.std.proofs.Common.{◌≡◌, map}
use Rattle.tree_table.specs.Slots.{row_of, AreWithin}
use Rattle.tree_table.specs.Linked.{rows_upto}
use Rattle.tree_table.proofs.table.Table.build.Given as goal

abbrev pub invariant-loop-node : goal.invariant-loop-node
invariant-loop-node l = record {
  rows : map (row_of l.bytes.items) l.slots.items ≡ rows_upto l.named l.order.items l.links.parents.items l.links.first.items l.node;
  within : AreWithin l.bytes.items l.slots.items;
}
