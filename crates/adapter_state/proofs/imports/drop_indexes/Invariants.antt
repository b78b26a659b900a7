use Rattle.std.proofs.Common.{◌≡◌, ◌+◌, ◌≤◌, ◌++◌, drop}
use Rattle.adapter_state.specs.State.{drop_calls}
use Rattle.adapter_state.proofs.imports.drop_indexes.Given as goal

abbrev pub invariant-loop-presence : goal.invariant-loop-presence
invariant-loop-presence l = record {
  so_far : l.calls ++ drop_calls l.at (drop l.presence-index l.kinds) ≡ drop_calls l.initial.at l.kinds;
  few : l.at ≤ l.initial.at + l.presence-index;
}
