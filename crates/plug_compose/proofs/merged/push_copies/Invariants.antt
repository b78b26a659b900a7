use Rattle.std.proofs.Common.{◌≡◌, ◌++◌, drop}
use Rattle.plug_compose.proofs.merged.push_copies.Given as goal

abbrev pub invariant-loop-i : goal.invariant-loop-i
invariant-loop-i l = l.all ++ drop l.i l.uses ≡ l.fn.all ++ l.uses
