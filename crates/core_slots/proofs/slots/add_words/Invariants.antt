use Rattle.std.proofs.Common.{◌≡◌, ◌++◌, take}
use Rattle.core_store.specs.Words.{words}
use Rattle.core_slots.proofs.slots.add_words.Given as goal

abbrev pub invariant-loop-value : goal.invariant-loop-value
invariant-loop-value l = l.list.items ≡ l.fn.list.items ++ words (take l.value-index l.values)
