use Rattle.std.proofs.Common.{◌-◌, ◌≤◌, length, take}
use Rattle.core_memory.specs.Pages.{Edits}
use Rattle.core_memory.proofs.bulk.write_all.Given as goal

abbrev pub invariant-loop-done : goal.invariant-loop-done
invariant-loop-done l = record {
  within : l.done ≤ length l.bytes;
  edits : Edits l.fn.pages.items l.pages.items l.at (take l.done l.bytes);
}

abbrev pub decreases-loop-done : goal.decreases-loop-done
decreases-loop-done l = length l.bytes - l.done
