use Rattle.std.proofs.Common.{◌≤◌, ◌-◌, length}
use Rattle.abi_store.specs.Slots.{Appends, zeros}
use Rattle.abi_store.proofs.flats.pad.Given as goal

abbrev pub invariant-loop-slots : goal.invariant-loop-slots
invariant-loop-slots l = record {
  zeros : Appends l.initial.slots.items l.slots.items (zeros (length l.slots.items - length l.initial.slots.items));
  least : length l.initial.slots.items ≤ length l.slots.items;
  most : length l.slots.items - length l.initial.slots.items ≤ l.end - length l.initial.slots.items;
}

abbrev pub decreases-loop-slots : goal.decreases-loop-slots
decreases-loop-slots l = l.end - length l.slots.items
