use Rattle.std.proofs.Common.{◌≡◌, take}
use Rattle.value_rows.proofs.trees.check.listed.Given as goal

abbrev pub invariant-loop-place : goal.invariant-loop-place
invariant-loop-place l = l.list.items ≡ take l.place l.entries
