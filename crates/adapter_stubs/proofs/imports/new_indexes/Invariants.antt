use Rattle.std.proofs.Common.{◌≡◌, ◌+◌, ◌≤◌, ◌++◌, drop}
use Rattle.adapter_stubs.specs.Stubs.{new_calls}
use Rattle.adapter_stubs.proofs.imports.new_indexes.Given as goal

abbrev pub invariant-loop-presence : goal.invariant-loop-presence
invariant-loop-presence l = record {
  so_far : l.calls ++ new_calls l.at (drop l.presence-index l.kinds) ≡ new_calls l.initial.at l.kinds;
  few : l.at ≤ l.initial.at + l.presence-index;
}
