use Rattle.std.proofs.Common.{◌-◌, ◌≤◌, take, drop}
use Rattle.core_memory.specs.Pages.{Edits, bytes_in}
use Rattle.core_memory.proofs.bulk.copy_up.Given as goal

abbrev pub invariant-loop-done : goal.invariant-loop-done
invariant-loop-done l = record {
  within : l.done ≤ l.len;
  edits : Edits l.fn.pages.items l.pages.items l.to (take l.done (take l.len (drop l.from (bytes_in l.fn.pages.items))));
}

abbrev pub decreases-loop-done : goal.decreases-loop-done
decreases-loop-done l = l.len - l.done
