use Rattle.std.proofs.Common.{◌≡◌, ◌+◌, ◌≤◌, ◌++◌, drop}
use Rattle.adapter_stubs.specs.Stubs.{host_imports}
use Rattle.adapter_stubs.proofs.imports.put_host_imports.Given as goal

abbrev pub invariant-loop-stub : goal.invariant-loop-stub
invariant-loop-stub l = record {
  so_far : l.list ++ host_imports l.ty (drop l.stub-index l.stubs) ≡ l.initial.list ++ host_imports 3 l.stubs;
  few : l.ty ≤ 3 + l.stub-index;
}
