use Rattle.std.proofs.Common.{◌≡◌, ◌++◌, drop}
use Rattle.adapter_stubs.specs.Stubs.{host_types}
use Rattle.adapter_stubs.proofs.types.put_host_types.Given as goal

abbrev pub invariant-loop-stub : goal.invariant-loop-stub
invariant-loop-stub l = record {
  so_far : l.list ++ host_types (drop l.stub-index l.stubs) ≡ l.initial.list ++ host_types l.stubs;
}
