-- Where parts lead from the root of the scratch folder.
use Rattle.std.specs.Prelude.{ℕ, false, List, [], Option, Some, None}
use Rattle.tree_table.specs.Paths.{resolve_parts, follow_link, no_entry, not_directory}
use Rattle.tree_table.specs.Scratches.{ScratchMap, scratch_tree}
use Rattle.reference_step.specs.Nodes.{Found, Missing, found_at}

abbrev pub lead_parts : ScratchMap → List (List ℕ) → Found
lead_parts m parts = found_at m (resolve_parts (scratch_tree m) [] false (follow_link (scratch_tree m) [] false 40) [] parts)

-- at a name after which a part stands: a file is no folder
abbrev pub inner : Option ℕ → Found
inner None = Missing no_entry
inner (Some number) = Missing not_directory
