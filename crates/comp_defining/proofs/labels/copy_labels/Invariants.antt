use Rattle.std.proofs.Common.{◌≡◌, ◌++◌, length}
use Rattle.comp_defining.proofs.labels.copy_labels.Given as goal

abbrev pub invariant-loop-label : goal.invariant-loop-label
invariant-loop-label l = l.copy ++ l.rest ≡ l.labels

abbrev pub decreases-loop-label : goal.decreases-loop-label
decreases-loop-label l = length l.rest
