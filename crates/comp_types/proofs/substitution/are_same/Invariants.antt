use Rattle.std.proofs.Common.{◌≡◌, drop}
use Rattle.comp_types.specs.Matching.{all_same}
use Rattle.comp_types.proofs.substitution.are_same.Given as goal

abbrev pub invariant-loop-i : goal.invariant-loop-i
invariant-loop-i l = all_same l.by ≡ all_same (drop l.i l.by)
