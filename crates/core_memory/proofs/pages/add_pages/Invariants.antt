use Rattle.std.proofs.Common.{◌≡◌, ◌+◌, ◌-◌, ◌≤◌, ◌++◌, replicate, vec_len}
use Rattle.std.specs.Vec.{vec_capacity}
use Rattle.core_memory.proofs.Memories.{blank}
use Rattle.core_memory.proofs.pages.add_pages.Given as goal

abbrev pub invariant-loop-added : goal.invariant-loop-added
invariant-loop-added l = record {
  items : l.pages.items ≡ l.fn.pages.items ++ replicate l._added blank;
  room : vec_len l.pages + (l.count - l._added) ≤ vec_capacity l.pages;
}
