use Rattle.std.proofs.Common.{◌≡◌, ℕ, ◌<◌, ◌≤◌, Some, slice_get}
use Rattle.value_rows.proofs.CheckLemmas.{FitAt, root_entry}
use Rattle.value_rows.proofs.trees.check.are_a_tree.Given as goal

abbrev pub invariant-loop-i : goal.invariant-loop-i
invariant-loop-i l = record {
  root : slice_get l.entries 0 ≡ Some root_entry;
  fit : (k : ℕ) → 1 ≤ k → k < l.i → FitAt l.entries k;
}
