use Rattle.std.proofs.Common.{◌≡◌, drop}
use Rattle.plug_match.specs.Numbers.{handed_on}
use Rattle.plug_match.proofs.numbers.hand_on.Given as goal

abbrev pub invariant-loop-i : goal.invariant-loop-i
invariant-loop-i l = handed_on l.kinds l.fn.by l.pairs ≡ handed_on l.kinds l.by (drop l.i l.pairs)
