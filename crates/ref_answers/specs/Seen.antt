-- The live handles as the definition has them, by the table of the trees.
use Rattle.std.specs.Prelude.{ℕ, ◌-◌, List, [], map, take, drop, slice_get, Option, Some, option_map}
use Rattle.std.specs.Option.{option_map_or}
use Rattle.tree_table.specs.Tables.{Forest, Row, tree_of, path_of}
use Rattle.reference_step.specs.Nodes.{type_of}
use Rattle.reference_step.specs.Handles as reference
use Rattle.reference_step.specs.Handles.{DirectoryEntry, LiveHandle, Live}
use Rattle.ref_rules.specs.declared.content.Content.{Content}
use Rattle.ref_rules.specs.declared.content.Content.TheVariants.{Host, Node, FileAt, EmptyIn, Discard, Always, Entries, ScratchRoot, ScratchEntries, ScratchFile, ScratchIn, ScratchOut}
use Rattle.ref_rules.specs.declared.content.Handle.{Handle}

abbrev pub entry_of_row : Row → DirectoryEntry
entry_of_row row = record { ty = type_of (Some row.node); name = row.name }

-- the entries of a folder, in the order of its children
abbrev pub children_of : Forest → Row → List DirectoryEntry
children_of f row = map entry_of_row (take (row.to - row.from) (drop row.from f.rows))

abbrev pub entries_of_node : Forest → ℕ → List DirectoryEntry
entries_of_node f node = option_map_or (children_of f) (slice_get f.rows node) []

abbrev pub content_in : Forest → Content → reference.Content
content_in f (Host id) = reference.Host id
content_in f (Node node) = reference.Node (tree_of f node) (path_of f node)
content_in f (FileAt node place) = reference.FileAt (tree_of f node) (path_of f node) place
content_in f EmptyIn = reference.EmptyIn
content_in f Discard = reference.Discard
content_in f Always = reference.Always
content_in f (Entries node place) = reference.Entries (drop place (entries_of_node f node))
content_in f ScratchRoot = reference.ScratchRoot
content_in f (ScratchEntries number) = reference.ScratchEntries number
content_in f (ScratchFile number may_write) = reference.ScratchFile number may_write
content_in f (ScratchIn number place) = reference.ScratchIn number place
content_in f (ScratchOut number place) = reference.ScratchOut number place

abbrev pub handle_in : Forest → Handle → LiveHandle
handle_in f h = record { kind = h.kind; content = content_in f h.content }

abbrev pub live_in : Forest → List (Option Handle) → Live
live_in f handles = map (option_map (handle_in f)) handles
