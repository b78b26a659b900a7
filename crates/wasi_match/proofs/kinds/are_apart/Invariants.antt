use Rattle.std.proofs.Common.{◌≡◌, [], drop}
use Rattle.wasi_match.specs.Kinds.{turned}
use Rattle.wasi_match.proofs.kinds.are_apart.Given as goal

abbrev pub invariant-loop-i : goal.invariant-loop-i
invariant-loop-i l = turned [] l.by ≡ turned l.back (drop l.i l.by)
