-- Contents whose nodes are of the table.
use Rattle.std.specs.Prelude.{ℕ, nat_lt, Bool, true, ◌&&◌}
use Rattle.std.specs.Option.{option_map_or}
use Rattle.ref_rules.specs.declared.content.Content.{Content}
use Rattle.ref_rules.specs.declared.content.Content.TheVariants.{Node, FileAt, Entries}
use Rattle.ref_answers.specs.declared.row.Row.{Row}
use Rattle.ref_answers.specs.declared.row.Row.TheVariants.{Traps, Does}

-- whether the node of a content is one of that many
abbrev pub node_inside : ℕ → Content → Bool
node_inside nodes (Node node) = nat_lt node nodes
node_inside nodes (FileAt node place) = nat_lt node nodes
node_inside nodes (Entries node place) = nat_lt node nodes
node_inside nodes _ = true

-- whether the nodes of what a row makes, and of what its handle stands for then, are of that many
abbrev pub row_inside : ℕ → Row → Bool
row_inside nodes Traps = true
row_inside nodes (Does e) = option_map_or (node_inside nodes) e.makes true && option_map_or (node_inside nodes) e.becomes true
