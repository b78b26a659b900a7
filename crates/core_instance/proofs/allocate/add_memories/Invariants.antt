use Rattle.std.proofs.Common.{◌≡◌, ◌++◌, length, map, take}
use Rattle.std.specs.List.{range_with_len}
use Rattle.core_memory.specs.Linear.{fresh}
use Rattle.core_instance.proofs.allocate.add_memories.Given as goal

abbrev pub invariant-loop-limits : goal.invariant-loop-limits
invariant-loop-limits l =
    (l.store ≡ record l.fn.store { memories = l.fn.store.memories ++ map (λ (l : _). fresh l.min l.max) (take l.limits-index l.memories) })
    × (l.places ≡ l.fn.places ++ range_with_len (length l.fn.store.memories) l.limits-index)
