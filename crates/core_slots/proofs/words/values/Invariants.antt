use Rattle.std.proofs.Common.{◌≡◌, take}
use Rattle.core_store.specs.Words.{values_in}
use Rattle.core_slots.proofs.words.values.Given as goal

abbrev pub invariant-loop-i : goal.invariant-loop-i
invariant-loop-i l = l.values ≡ values_in l.functions (take l.i l.types) l.words
