use Rattle.std.proofs.Common.{◌+◌, ◌≤◌, take, drop}
use Rattle.core_memory.specs.Pages.{Edits, bytes_in}
use Rattle.core_memory.proofs.bulk.copy_down.Given as goal

abbrev pub invariant-loop-left : goal.invariant-loop-left
invariant-loop-left l = record {
  within : l.left ≤ l.len;
  edits : Edits l.fn.pages.items l.pages.items (l.to + l.left) (drop l.left (take l.len (drop l.from (bytes_in l.fn.pages.items))));
}

abbrev pub decreases-loop-left : goal.decreases-loop-left
decreases-loop-left l = l.left
