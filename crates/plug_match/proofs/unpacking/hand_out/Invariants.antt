use Rattle.std.proofs.Common.{◌≡◌, drop}
use Rattle.comp_types.specs.Matching.{is_own, handed_out}
use Rattle.plug_match.proofs.unpacking.hand_out.Given as goal

abbrev pub invariant-loop-i : goal.invariant-loop-i
invariant-loop-i l = handed_out (is_own l.own) l.fn.by l.inside ≡ handed_out (is_own l.own) l.by (drop l.i l.inside)
