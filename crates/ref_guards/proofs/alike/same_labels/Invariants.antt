use Rattle.std.proofs.Common.{◌≡◌, drop}
use Rattle.reference_step.specs.Rules.{same_labels}
use Rattle.ref_guards.proofs.alike.same_labels.Given as goal

abbrev pub invariant-loop-i : goal.invariant-loop-i
invariant-loop-i l = same_labels (drop l.i l.labels) (drop l.i l.others) ≡ same_labels l.labels l.others
