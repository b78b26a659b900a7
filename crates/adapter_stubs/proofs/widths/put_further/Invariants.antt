use Rattle.std.proofs.Common.{◌≡◌, ◌-◌, ◌++◌}
use Rattle.adapter_stubs.specs.Widths.{further}
use Rattle.adapter_stubs.proofs.widths.put_further.Given as goal

abbrev pub invariant-loop-i : goal.invariant-loop-i
invariant-loop-i l = record {
  so_far : l.widths.items ++ further l.i (l.count - l.i) ≡ l.initial.widths.items ++ further 0 l.count;
}
