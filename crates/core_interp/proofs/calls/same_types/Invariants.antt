use Rattle.std.proofs.Common.{◌≡◌, length, drop}
use Rattle.core_store.specs.Eval.{same_types}
use Rattle.core_interp.proofs.calls.same_types.Given as goal

abbrev pub invariant-loop-i : goal.invariant-loop-i
invariant-loop-i l = record {
  same : same_types l.a l.b ≡ same_types (drop l.i l.a) (drop l.i l.b);
  long : length l.a ≡ length l.b;
}
