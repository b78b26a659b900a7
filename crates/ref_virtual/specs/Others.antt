-- Which contents answer alike.
use Rattle.std.specs.Prelude.{ℕ, Bool, true, false, Option, Some, None}
use Rattle.tree_table.specs.Tables.{Forest}
use Rattle.reference_step.specs.Codes as code
use Rattle.reference_step.specs.Descriptors.{are_same}
use Rattle.reference_step.specs.Handles.{Content, Node, FileAt, ScratchRoot, ScratchFile, ScratchEntries, Entries, ScratchIn, ScratchOut}
use Rattle.ref_rules.specs.declared.content.Content.{Content as LiveContent}
use Rattle.ref_rules.specs.declared.content.Content.TheVariants.{Node as Node'}
use Rattle.ref_virtual.specs.Views.{node_in}
use Rattle.ref_virtual.specs.declared.methods.Method.{Method}
use Rattle.ref_virtual.specs.declared.methods.Method.TheVariants.{Looks, Changes, Pairs, Syncs, ReadDirectoryEntry}

-- no descriptor of a tree or of the scratch folder
abbrev pub is_no_descriptor : Content → Bool
is_no_descriptor (Node tree path) = false
is_no_descriptor ScratchRoot = false
is_no_descriptor (ScratchFile number may_write) = false
is_no_descriptor _ = true

-- no listing of a folder
abbrev pub is_no_listing : Content → Bool
is_no_listing (Entries rest) = false
is_no_listing (ScratchEntries number) = false
is_no_listing _ = true

-- no listing where the next entry is asked, and else no descriptor
abbrev pub is_other : Method → Content → Bool
is_other (Looks look) c = is_no_descriptor c
is_other (Changes change) c = is_no_descriptor c
is_other (Pairs pair) c = is_no_descriptor c
is_other Syncs c = is_no_descriptor c
is_other ReadDirectoryEntry c = is_no_listing c

abbrev pub is_next : Method → Bool
is_next ReadDirectoryEntry = true
is_next _ = false

-- no stream from a file
abbrev pub is_no_source : Content → Bool
is_no_source (FileAt tree path place) = false
is_no_source (ScratchIn number place) = false
is_no_source _ = true

-- no stream to a file
abbrev pub is_no_sink : Content → Bool
is_no_sink (ScratchOut number place) = false
is_no_sink _ = true

-- the node that a content is
abbrev pub node_of : LiveContent → Option ℕ
node_of (Node' node) = Some node
node_of _ = None

-- why a node of a tree and another content cannot be joined
abbrev pub crossing : Option ℕ → ℕ
crossing None = code.cross_device
crossing (Some node) = code.read_only

-- whether a node is the other one, where there is one
abbrev pub same_as : Forest → ℕ → Option ℕ → Bool
same_as f node None = false
same_as f node (Some other) = are_same (node_in f node) (node_in f other)
