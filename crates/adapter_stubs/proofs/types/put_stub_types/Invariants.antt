use Rattle.std.proofs.Common.{◌≡◌, ◌++◌, drop}
use Rattle.adapter_stubs.specs.Stubs.{stub_types}
use Rattle.adapter_stubs.proofs.types.put_stub_types.Given as goal

abbrev pub invariant-loop-stub : goal.invariant-loop-stub
invariant-loop-stub l = record {
  so_far : l.list ++ stub_types (drop l.stub-index l.stubs) ≡ l.initial.list ++ stub_types l.stubs;
}
