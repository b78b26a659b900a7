use Rattle.std.proofs.Common.{◌≡◌, None, replicate, vec_len, vec_capacity}
use Rattle.overlay_tree.proofs.slots.free_slots.Given as goal

abbrev pub invariant-loop : goal.invariant-loop
invariant-loop l = record {
  free : l.slots.items ≡ replicate l.counter None;
  len : vec_len l.slots ≡ l.counter;
  room : vec_capacity l.slots ≡ l.fn.count;
}
