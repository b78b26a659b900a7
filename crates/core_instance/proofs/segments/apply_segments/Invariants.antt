use Rattle.std.proofs.Common.{◌-◌, length}
use Rattle.core_instance.proofs.LoopLemmas.{SegmentsGo}
use Rattle.core_instance.proofs.segments.apply_segments.Given as goal

abbrev pub invariant-loop-index : goal.invariant-loop-index
invariant-loop-index l = SegmentsGo l.places l.names l.fn.store (length l.fn.store.segments - length l.segments) l.segments l.store l.index
