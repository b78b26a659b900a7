use Rattle.std.proofs.Common.{◌≡◌, ◌++◌, length, map, take}
use Rattle.std.specs.List.{range_with_len}
use Rattle.core_instance.specs.Instantiation.{bytes_of}
use Rattle.core_instance.proofs.allocate.add_segments.Given as goal

abbrev pub invariant-loop-segment : goal.invariant-loop-segment
invariant-loop-segment l =
    (l.store ≡ record l.fn.store { segments = l.fn.store.segments ++ map bytes_of (take l.segment-index l.segments) })
    × (l.places ≡ l.fn.places ++ range_with_len (length l.fn.store.segments) l.segment-index)
