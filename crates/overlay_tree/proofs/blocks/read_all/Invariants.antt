use Rattle.std.proofs.Common.{◌≡◌, ◌-◌, ◌≤◌, length, take, drop}
use Rattle.overlay_tree.specs.Blocks.{in_order}
use Rattle.overlay_tree.proofs.blocks.read_all.Given as goal

abbrev pub invariant-loop-done : goal.invariant-loop-done
invariant-loop-done l = record {
  within : l.done ≤ length l.out;
  long : length l.out ≡ length l.fn.out;
  read : take l.done l.out ≡ take l.done (drop l.at (in_order l.order l.bytes));
}

abbrev pub decreases-loop-done : goal.decreases-loop-done
decreases-loop-done l = length l.out - l.done
