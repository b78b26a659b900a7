use Rattle.std.proofs.Common.{◌-◌, length}
use Rattle.core_instance.proofs.LoopLemmas.{ElementsGo}
use Rattle.core_instance.proofs.segments.apply_elements.Given as goal

abbrev pub invariant-loop-index : goal.invariant-loop-index
invariant-loop-index l = ElementsGo l.places l.names l.fn.store (length l.fn.store.elements - length l.segments) l.segments l.store l.index
