use Rattle.std.proofs.Common.{◌≡◌, ◌≤◌, length}
use Rattle.std.specs.Prelude.{reverse}
use Rattle.core_interp.specs.Jumping.{beyond}
use Rattle.core_interp.proofs.leaves.pop_call.Given as goal

abbrev pub invariant-loop-control : goal.invariant-loop-control
invariant-loop-control l = record {
  same : beyond (reverse l.fn.controls.items) ≡ beyond (reverse l.controls.items);
  shrinks : length l.controls.items ≤ length l.fn.controls.items;
}

abbrev pub decreases-loop-control : goal.decreases-loop-control
decreases-loop-control l = length l.controls.items
