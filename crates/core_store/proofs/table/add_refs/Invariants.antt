use Rattle.std.proofs.Common.{◌≡◌, ◌+◌, ◌-◌, ◌≤◌, ◌++◌, vec_len}
use Rattle.std.specs.Vec.{vec_capacity}
use Rattle.core_memory.specs.Replaced.{repeated}
use Rattle.core_store.proofs.table.add_refs.Given as goal

abbrev pub invariant-loop-added : goal.invariant-loop-added
invariant-loop-added l = record {
  items : l.refs.items ≡ l.fn.refs.items ++ repeated l._added l.value;
  room : vec_len l.refs + (l.count - l._added) ≤ vec_capacity l.refs;
}
