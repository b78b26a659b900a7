use Rattle.core_store.proofs.Places.{Kept}
use Rattle.core_store.proofs.code.Code.new.Given as goal

abbrev pub invariant-loop-at : goal.invariant-loop-at
invariant-loop-at l = Kept l.code.items l.jumps.items l.at l.opens.items

abbrev pub decreases-loop-at : goal.decreases-loop-at
decreases-loop-at l = l.at
