use Rattle.std.proofs.Common.{◌≡◌, ◌++◌, length, map, take}
use Rattle.std.specs.List.{range_with_len}
use Rattle.core_instance.specs.Constants.{refs_of}
use Rattle.core_instance.proofs.allocate.add_references.Given as goal

abbrev pub invariant-loop-segment : goal.invariant-loop-segment
invariant-loop-segment l =
    (l.store ≡ record l.fn.store { elements = l.fn.store.elements ++ map (refs_of l.names) (take l.segment-index l.segments) })
    × (l.places ≡ l.fn.places ++ range_with_len (length l.fn.store.elements) l.segment-index)
