use Rattle.std.proofs.Common.{◌≡◌, take, length}
use Rattle.wit_types.specs.Plain.{plain}
use Rattle.type_table.specs.Slots.{slots_of}
use Rattle.type_table.specs.Tables.{trees, AreLinks}
use Rattle.type_table.proofs.table.TypeTable.are_same_slots.Given as goal

abbrev pub invariant-loop-index : goal.invariant-loop-index
invariant-loop-index l = record {
  as_many : length (slots_of (plain l.a)) ≡ length (slots_of (plain l.b));
  same : AreLinks (trees l.self) l.links (slots_of (plain l.a)) → AreLinks (trees l.self) l.others (slots_of (plain l.b)) → take l.index (slots_of (plain l.a)) ≡ take l.index (slots_of (plain l.b));
}
