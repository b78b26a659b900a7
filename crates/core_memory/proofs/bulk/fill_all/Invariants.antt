use Rattle.core_memory.specs.Replaced.{repeated}
use Rattle.std.proofs.Common.{◌-◌, ◌≤◌}
use Rattle.core_memory.specs.Pages.{Edits}
use Rattle.core_memory.proofs.bulk.fill_all.Given as goal

abbrev pub invariant-loop-done : goal.invariant-loop-done
invariant-loop-done l = record {
  within : l.done ≤ l.len;
  edits : Edits l.fn.pages.items l.pages.items l.at (repeated l.done l.value);
}

abbrev pub decreases-loop-done : goal.decreases-loop-done
decreases-loop-done l = l.len - l.done
