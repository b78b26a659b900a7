use Rattle.std.proofs.Common.{◌≡◌, ◌≤◌, drop, take, length}
use Rattle.type_table.specs.Slots.{slots_of}
use Rattle.type_table.specs.Tables.{trees, HasOwnParts, AreLinks}
use Rattle.type_table.specs.Nodes.{AreBelow, slot_keys}
use Rattle.type_table.proofs.table.TypeTable.links.Given as goal

abbrev pub invariant-loop-index : goal.invariant-loop-index
invariant-loop-index l = record {
  few : l.typed ≤ l.index;
  below : AreBelow (length l.self) l.links;
  keys : drop l.typed l.keys ≡ slot_keys (drop l.index (slots_of l.known));
  links : HasOwnParts l.self l.known → AreLinks (trees l.self) l.links (take l.index (slots_of l.known));
}
