use Rattle.std.proofs.Common.{◌≡◌, ◌++◌, drop}
use Rattle.adapter_state.specs.State.{each_kind, drop_import}
use Rattle.adapter_state.proofs.imports.put_drop_imports.Given as goal

abbrev pub invariant-loop-presence : goal.invariant-loop-presence
invariant-loop-presence l = record {
  so_far : l.list ++ each_kind drop_import l.kind (drop l.presence-index l.kinds) ≡ l.initial.list ++ each_kind drop_import 0 l.kinds;
  number : l.kind ≡ l.presence-index;
}
