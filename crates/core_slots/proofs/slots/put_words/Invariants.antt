use Rattle.std.proofs.Common.{◌≡◌, ◌+◌, ◌++◌, length, take}
use Rattle.core_store.specs.Words.{words}
use Rattle.core_slots.proofs.slots.put_words.Given as goal

abbrev pub invariant-loop-i : goal.invariant-loop-i
invariant-loop-i l = record {
  long : length l.list.items ≡ length l.fn.list.items;
  front : take (l.from + l.i) l.list.items ≡ take l.from l.fn.list.items ++ words (take l.i l.values);
}
