use Rattle.std.proofs.Common.{◌≡◌, ◌-◌, ◌≤◌, take, drop}
use Rattle.core_memory.specs.Pages.{bytes_in}
use Rattle.core_memory.proofs.reading.read_all.Given as goal

abbrev pub invariant-loop-done : goal.invariant-loop-done
invariant-loop-done l = record {
  within : l.done ≤ l.len;
  bytes : l.bytes.items ≡ take l.done (drop l.at (bytes_in l.pages));
}

abbrev pub decreases-loop-done : goal.decreases-loop-done
decreases-loop-done l = l.len - l.done
