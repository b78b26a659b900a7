use Rattle.std.proofs.Common.{◌≡◌, ℕ, ◌<◌, get_or}
use Rattle.std.specs.declared.cmp.Ordering.TheVariants.{Less}
use Rattle.tree_table.specs.declared.entries.Entry.{Entry}
use Rattle.tree_table.specs.Trees.{path_cmp}
use Rattle.value_rows.proofs.trees.check.are_before.Given as goal

abbrev pub invariant-loop-entry : goal.invariant-loop-entry
invariant-loop-entry l = (k : ℕ) (d : Entry) → k < l.entry-index → path_cmp (get_or l.entries k d).path l.path ≡ Less
