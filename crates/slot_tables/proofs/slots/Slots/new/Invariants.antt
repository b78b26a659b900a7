use Rattle.std.proofs.Common.{◌≡◌, None, map, replicate, vec_len, vec_capacity}
use Rattle.slot_tables.specs.Places.{entry_of, IsSound}
use Rattle.slot_tables.proofs.slots.Slots.new.Given as goal

abbrev pub invariant-loop-at : goal.invariant-loop-at
invariant-loop-at g l = record {
  sound : IsSound l.places.items l.first l.at;
  free : map entry_of l.places.items ≡ replicate l.at None;
  len : vec_len l.places ≡ l.at;
  room : vec_capacity l.places ≡ l.fn.capacity;
}
