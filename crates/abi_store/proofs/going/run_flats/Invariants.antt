use Rattle.std.proofs.Common.{◌≡◌, length}
use Rattle.std.specs.Prelude.{reverse}
use Rattle.core_memory.specs.Linear.{Linear}
use Rattle.abi_store.specs.Flows.{led}
use Rattle.abi_store.specs.Slots.{slots_lowered, known}
use Rattle.abi_store.proofs.going.run_flats.Given as goal

abbrev pub invariant-loop-slot : goal.invariant-loop-slot
invariant-loop-slot l =
    (m : Linear) → led (known l.initial.flats.done.items) (slots_lowered (reverse l.initial.flats.left.items) 0) m ≡ led (known l.flats.done.items) (slots_lowered (reverse l.flats.left.items) 0) m

abbrev pub decreases-loop-slot : goal.decreases-loop-slot
decreases-loop-slot l = length l.flats.left.items
