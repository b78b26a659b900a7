use Rattle.std.proofs.Common.{◌≡◌, ◌+◌, drop}
use Rattle.overlay_tree.specs.Pieces.{blocks_in}
use Rattle.overlay_tree.proofs.slots.blocks_in.Given as goal

abbrev pub invariant-loop-slot : goal.invariant-loop-slot
invariant-loop-slot l = l.sum + blocks_in (drop l.slot-index l.slots) ≡ blocks_in l.slots
