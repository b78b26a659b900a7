use Rattle.std.proofs.Common.{◌≡◌, ◌-◌, length}
use Rattle.core_memory.specs.Replaced.{replaced, repeated}
use Rattle.core_store.proofs.table.fill_refs.Given as goal

abbrev pub invariant-loop-index : goal.invariant-loop-index
invariant-loop-index l = record {
  items : l.refs.items ≡ replaced l.fn.refs.items l.start (repeated (l.index - l.start) l.value);
  len : length l.refs.items ≡ length l.fn.refs.items;
}
