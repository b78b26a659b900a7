-- The trees of a policy over files with these contents, in the order in which names are due.
use Rattle.std.specs.Prelude.{ℕ, zero, suc, ◌+◌, List, [], ◌∷◌, ◌++◌, Option, Some, None, Result, Ok, Err, if◌then◌else◌}
use Rattle.outside.specs.Files.{Held}
use Rattle.outside.specs.declared.files.Entry.{Entry}
use Rattle.outside.specs.declared.files.EntryKind.{EntryKind}
use Rattle.outside.specs.declared.files.EntryKind.TheVariants as kinds
use Rattle.tree_table.specs.declared.entries.Node.TheVariants.{Folder, Link as LinkTo}
use Rattle.tree_table.specs.Stored.{root_entry}
use Rattle.mount_tree.specs.Legal.{is_entry_name}
use Rattle.policy_data.specs.declared.data.Content.{Content}
use Rattle.policy_data.specs.declared.data.Content.TheVariants.{Bytes, File}
use Rattle.policy_data.specs.declared.data.EmbeddedFile.{EmbeddedFile}
use Rattle.policy_data.specs.declared.data.Link.{Link}
use Rattle.policy_data.specs.declared.data.Embedded.{Embedded}
use Rattle.policy_data.specs.declared.data.TreeContent.{TreeContent}
use Rattle.policy_data.specs.declared.data.TreeContent.TheVariants.{Mount, Embedded as Written}
use Rattle.policy_data.specs.declared.data.TreeSource.{TreeSource}
use Rattle.policy_data.specs.declared.policy.Policy.{Policy}
use Rattle.mount_tree.specs.declared.fault.TreeFault.{TreeFault}
use Rattle.mount_tree.specs.declared.fault.TreeFault.TheVariants.{FileFault, BadName}
use Rattle.mount_tree.specs.declared.forest.Forest.{Forest}
use Rattle.mount_tree.specs.Runs.{Run, done, stops, and_next, each}
use Rattle.mount_tree.specs.Making.{Sofar, reached, fitting, few_nodes, with_file, with_other, with_tree}

-- ---- what files and folders outside hold

abbrev pub content_by : List ℕ → ℕ → Option (List ℕ) → Result (List ℕ) TreeFault
content_by name used None = Err (FileFault name)
content_by name used (Some bytes) = fitting used bytes

-- the bytes of a file outside, after that many bytes of other files
abbrev pub file_due : Held → List ℕ → ℕ → Run (List ℕ)
file_due held name used = record { asks = name ∷ []; answer = content_by name used (held.file name) }

abbrev pub listing_by : List ℕ → Option (List Entry) → Result (List Entry) TreeFault
listing_by name None = Err (FileFault name)
listing_by name (Some entries) = Ok entries

abbrev pub listing_due : Held → List ℕ → Run (List Entry)
listing_due held name = record { asks = name ∷ []; answer = listing_by name (held.folder name) }

-- ---- one path

abbrev pub reach : Sofar → List ℕ → Run Sofar
reach sofar path = record { asks = []; answer = reached sofar path }

abbrev pub content_due : Held → ℕ → Content → Run (List ℕ)
content_due held used (Bytes bytes) = record { asks = []; answer = fitting used bytes }
content_due held used (File name) = file_due held name used

-- a file: its place comes first, so one that has none isn't read
abbrev pub file_step : Held → Sofar → List ℕ → Content → Run Sofar
file_step held sofar path content = and_next (reach sofar path) (λ made. and_next (content_due held made.bytes content) (λ bytes. done (with_file made path bytes)))

abbrev pub folder_step : Sofar → List ℕ → Run Sofar
folder_step sofar path = and_next (reach sofar path) (λ made. done (with_other made path Folder))

abbrev pub link_step : Sofar → List ℕ → List ℕ → Run Sofar
link_step sofar path target = and_next (reach sofar path) (λ made. done (with_other made path (LinkTo target)))

-- ---- what a policy writes out: files, folders and links

abbrev pub embedded_due : Held → Sofar → Embedded → Run Sofar
embedded_due held sofar embedded =
    and_next (each (λ s (file : EmbeddedFile). file_step held s file.path file.content) sofar embedded.files)
    (λ files. and_next (each folder_step files embedded.folders)
    (λ folders. each (λ s (link : Link). link_step s link.path link.target) folders embedded.links))

-- ---- what is mounted: each entry of a folder in order, and what is in a folder directly after it

-- what an entry of a folder is called outside
abbrev pub inside : List ℕ → List ℕ → List ℕ
inside folder name = folder ++ 47 ∷ name

-- its path in the tree
abbrev pub below : List ℕ → List ℕ → List ℕ
below [] name = name
below (b ∷ path) name = (b ∷ path) ++ 47 ∷ name

abbrev pub entry_by : (List ℕ → List ℕ → Sofar → Run Sofar) → Held → EntryKind → List ℕ → List ℕ → Sofar → Run Sofar
entry_by deeper held kinds.File outside path sofar = file_step held sofar path (File outside)
entry_by deeper held kinds.Folder outside path sofar = and_next (folder_step sofar path) (λ made. deeper outside path made)

abbrev pub entry_due : (List ℕ → List ℕ → Sofar → Run Sofar) → Held → List ℕ → List ℕ → Sofar → Entry → Run Sofar
entry_due deeper held folder path sofar entry =
    if is_entry_name entry.name then entry_by deeper held entry.kind (inside folder entry.name) (below path entry.name) sofar else stops (BadName entry.name)

-- that many levels deep; at the limit on names nothing stands deeper
abbrev pub mount_due : ℕ → Held → List ℕ → List ℕ → Sofar → Run Sofar
mount_due zero held folder path sofar = done sofar
mount_due (suc levels) held folder path sofar = and_next (listing_due held folder) (λ entries. each (entry_due (mount_due levels held) held folder path) sofar entries)

-- ---- all trees

abbrev pub content_of : Held → Sofar → TreeContent → Run Sofar
content_of held sofar (Mount folder) = mount_due 65 held folder [] sofar
content_of held sofar (Written embedded) = embedded_due held sofar embedded

-- the root is a node
abbrev pub root_due : Forest → Run Sofar
root_due forest = record { asks = []; answer = few_nodes (forest.nodes + 1) (record { before = forest; bytes = forest.bytes; there = root_entry ∷ [] }) }

abbrev pub tree_step : Held → Forest → TreeSource → Run Forest
tree_step held forest source =
    and_next (root_due forest) (λ sofar. and_next (content_of held sofar source.content) (λ made. done (with_tree made source.name)))

abbrev pub no_trees : Forest
no_trees = record { nodes = 0; bytes = 0; trees = [] }

-- the trees of a policy
abbrev pub trees_due : Held → Policy → Run Forest
trees_due held policy = each (tree_step held) no_trees policy.fs_tree
