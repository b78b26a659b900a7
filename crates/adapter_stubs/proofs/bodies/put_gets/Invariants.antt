use Rattle.std.proofs.Common.{◌≡◌, ◌+◌, ◌-◌, ◌++◌}
use Rattle.adapter_stubs.specs.Stub.{gets}
use Rattle.adapter_stubs.proofs.bodies.put_gets.Given as goal

abbrev pub invariant-loop-i : goal.invariant-loop-i
invariant-loop-i l = record {
  so_far : l.out.items ++ gets (l.from + l.i) (l.count - l.i) ≡ l.initial.out.items ++ gets l.from l.count;
}
