use Rattle.std.proofs.Common.{◌≡◌, ◌++◌, drop}
use Rattle.adapter_state.specs.State.{each_kind}
use Rattle.adapter_stubs.specs.Stubs.{new_import}
use Rattle.adapter_stubs.proofs.imports.put_new_imports.Given as goal

abbrev pub invariant-loop-presence : goal.invariant-loop-presence
invariant-loop-presence l = record {
  so_far : l.list ++ each_kind new_import l.kind (drop l.presence-index l.kinds) ≡ l.initial.list ++ each_kind new_import 0 l.kinds;
  number : l.kind ≡ l.presence-index;
}
