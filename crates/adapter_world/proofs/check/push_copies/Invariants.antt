use Rattle.std.proofs.Common.{◌≡◌, ◌++◌, drop}
use Rattle.adapter_world.proofs.check.push_copies.Given as goal

abbrev pub invariant-loop-i : goal.invariant-loop-i
invariant-loop-i l = l.all ++ drop l.i l.names ≡ l.fn.all ++ l.names
