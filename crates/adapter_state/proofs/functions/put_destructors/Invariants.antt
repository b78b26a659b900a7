use Rattle.std.proofs.Common.{◌≡◌, ◌++◌, drop}
use Rattle.adapter_state.specs.State.{each_kind, destructor_of}
use Rattle.adapter_state.proofs.functions.put_destructors.Given as goal

abbrev pub invariant-loop-presence : goal.invariant-loop-presence
invariant-loop-presence l = record {
  so_far : l.list.items ++ each_kind (destructor_of l.kinds l.layout) l.kind (drop l.presence-index l.kinds) ≡ l.initial.list.items ++ each_kind (destructor_of l.kinds l.layout) 0 l.kinds;
  number : l.kind ≡ l.presence-index;
}
