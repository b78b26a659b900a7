-- The name that the parts of a text may give to a new file.
use Rattle.std.specs.Prelude.{ℕ, not, List, filter, if◌then◌else◌}
use Rattle.tree_table.specs.Paths.{part_of}
use Rattle.reference_step.specs.Codes as code
use Rattle.reference_step.specs.Nodes.{NewName, Unnamed, is_stay, last_stays, only_name}

abbrev pub new_of : List (List ℕ) → NewName
new_of parts = if last_stays parts then Unnamed code.no_entry else only_name (filter (λ part. not (is_stay (part_of part))) parts)
