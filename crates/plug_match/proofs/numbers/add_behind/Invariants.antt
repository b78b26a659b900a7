use Rattle.std.proofs.Common.{◌≡◌, drop}
use Rattle.plug_match.specs.Numbers.{with_pairs}
use Rattle.plug_match.proofs.numbers.add_behind.Given as goal

abbrev pub invariant-loop-i : goal.invariant-loop-i
invariant-loop-i l = with_pairs l.fn.own (drop l.first l.by) ≡ with_pairs l.own (drop l.i l.by)
