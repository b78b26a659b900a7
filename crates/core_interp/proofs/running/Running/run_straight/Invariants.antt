use Rattle.core_interp.specs.Straight.{Came}
use Rattle.core_interp.proofs.running.Running.run_straight.Given as goal

abbrev pub invariant-loop-left : goal.invariant-loop-left
invariant-loop-left l = record {
  came : Came l.fn.self l.fn.store l.fn.budget (record l.self { at = l.at }) l.store l.left;
}

abbrev pub decreases-loop-left : goal.decreases-loop-left
decreases-loop-left l = l.left
