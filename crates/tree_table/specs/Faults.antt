-- The number of each error code that a walk ends with.
use Rattle.std.specs.Prelude.{ℕ}
use Rattle.tree_table.specs.Paths as paths
use Rattle.tree_table.specs.declared.walking.WalkFault.{WalkFault}
use Rattle.tree_table.specs.declared.walking.WalkFault.TheVariants.{Loop, NoEntry, NotDirectory, NotPermitted}

abbrev pub code_of : WalkFault → ℕ
code_of Loop = paths.loop
code_of NoEntry = paths.no_entry
code_of NotDirectory = paths.not_directory
code_of NotPermitted = paths.not_permitted
