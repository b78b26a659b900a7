use Rattle.std.proofs.Common.{ℕ, ◌<◌, ◌≤◌, List, length, get_or}
use Rattle.value_rows.proofs.trees.check.are_short.Given as goal

abbrev pub invariant-loop-name : goal.invariant-loop-name
invariant-loop-name l = (k : ℕ) (d : List ℕ) → k < l.name-index → length (get_or l.path k d) ≤ 255
