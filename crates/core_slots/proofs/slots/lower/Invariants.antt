use Rattle.std.proofs.Common.{◌≡◌, ◌+◌, ◌++◌, length, take, drop}
use Rattle.core_slots.proofs.slots.lower.Given as goal

abbrev pub invariant-loop-i : goal.invariant-loop-i
invariant-loop-i l = record {
  long : length l.words.items ≡ length l.fn.words.items;
  front : take (l.to + l.i) l.words.items ≡ take l.to l.fn.words.items ++ take l.i (drop l.from l.fn.words.items);
  back : drop (l.to + l.i) l.words.items ≡ drop (l.to + l.i) l.fn.words.items;
}
