use Rattle.std.proofs.Common.{◌≡◌, drop, []}
use Rattle.comp_types.specs.Matching.{is_own, paired}
use Rattle.plug_match.proofs.unpacking.are_paired.Given as goal

abbrev pub invariant-loop-i : goal.invariant-loop-i
invariant-loop-i l = paired (is_own l.owned) (is_own l.own) [] l.inside ≡ paired (is_own l.owned) (is_own l.own) l.inner (drop l.i l.inside)
