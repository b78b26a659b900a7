use Rattle.std.proofs.Common.{List, ℕ, ◌-◌}
use Rattle.core_body.specs.Parts.{IsLevel, Same}
use Rattle.core_body.proofs.parts.same_from.Given as goal

abbrev pub invariant-loop-done : goal.invariant-loop-done
invariant-loop-done l = (text : List ℕ) → IsLevel text l.level.size l.level.names.items → Same text l.i l.j l.done

abbrev pub decreases-loop-done : goal.decreases-loop-done
decreases-loop-done l = l.len - l.done
