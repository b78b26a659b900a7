-- An item of `fs.tree`.
use Rattle.std.specs.Prelude.{ℕ, List, [], ◌∷◌, ◌++◌, not, Option, Some, None, Result, Ok, Err, length, nat_lt, ◌==◌, ◌||◌, map, codes, if◌then◌else◌}
use Rattle.std.specs.List.{list_any}
use Rattle.toml.specs.Data.{Data, string, array, table, Members, get_member}
use Rattle.policy_data.specs.declared.fault.ReadPolicyFault.{ReadPolicyFault}
use Rattle.policy_data.specs.declared.fault.ReadPolicyFault.TheVariants.{BadName, BadValue, OverLimit}
use Rattle.policy_data.specs.declared.words.Version.{Version}
use Rattle.policy_data.specs.declared.words.Version.TheVariants.{One, Two}
use Rattle.policy_data.specs.declared.data.EmbeddedFile.{EmbeddedFile}
use Rattle.policy_data.specs.declared.data.Link.{Link}
use Rattle.policy_data.specs.declared.data.Embedded.{Embedded}
use Rattle.policy_data.specs.declared.data.TreeContent.{TreeContent}
use Rattle.policy_data.specs.declared.data.TreeContent.TheVariants.{Mount, Embedded as Written}
use Rattle.policy_data.specs.declared.data.TreeSource.{TreeSource}
pub use Rattle.policy_data.specs.Limits.{file_placed, folder_placed, link_placed, tree_names}
use Rattle.policy_toml.specs.Reading.{and_then, each_item, each_member}
use Rattle.policy_toml.specs.Keys.{below, nth, is_known, optional, required, table_in}
use Rattle.policy_toml.specs.Values.{any_text, text_such}
use Rattle.path_names.specs.Parts.{holds_byte}
use Rattle.path_names.specs.Paths.{Placed, clashes, is_path}
use Rattle.policy_toml.specs.Contents.{content_keys, content_of}

-- what is read at `path` may stand beside what is there
abbrev pub placed_at : List ℕ → Placed → List Placed → Result (Unit {0}) ReadPolicyFault
placed_at path p there = if list_any (clashes p) there then Err (BadValue path) else Ok tt

-- ---- files, in byte order of their paths

abbrev pub file_of : List ℕ → List ℕ → Data → Result EmbeddedFile ReadPolicyFault
file_of path key d =
    if is_path key then and_then (table_in content_keys content_of path d) (λ content. Ok (record { path = key; content = content }))
    else Err (BadName path)

abbrev pub file_at : List ℕ → List EmbeddedFile → List ℕ → Data → Result EmbeddedFile ReadPolicyFault
file_at path seen key d = and_then (file_of (below path key) key d)
    (λ file. and_then (placed_at (below path key) (file_placed file) (map file_placed seen)) (λ _. Ok file))

abbrev pub files_in : List ℕ → Data → Result (List EmbeddedFile) ReadPolicyFault
files_in path (table ms) = each_member (file_at path) [] ms
files_in path _ = Err (BadValue path)

-- ---- folders, in the order of the text

abbrev pub folder_of : List ℕ → Data → Result (List ℕ) ReadPolicyFault
folder_of path (string folder) = if is_path folder then Ok folder else Err (BadName path)
folder_of path _ = Err (BadValue path)

abbrev pub folder_at : List ℕ → List Placed → List (List ℕ) → Data → Result (List ℕ) ReadPolicyFault
folder_at path there seen d = and_then (folder_of (nth path (length seen)) d)
    (λ folder. and_then (placed_at (nth path (length seen)) (folder_placed folder) (there ++ map folder_placed seen)) (λ _. Ok folder))

abbrev pub folders_in : List Placed → List ℕ → Data → Result (List (List ℕ)) ReadPolicyFault
folders_in there path (array ds) = each_item (folder_at path there) [] ds
folders_in there path _ = Err (BadValue path)

-- ---- links, in byte order of their paths

-- 1 to 4096 bytes without NUL
abbrev pub target_in : List ℕ → Data → Result (List ℕ) ReadPolicyFault
target_in path (string target) =
    if (length target == 0) || holds_byte 0 target then Err (BadValue path)
    else (if nat_lt 4096 (length target) then Err (OverLimit path (length target)) else Ok target)
target_in path _ = Err (BadValue path)

abbrev pub link_of : List ℕ → List ℕ → Data → Result Link ReadPolicyFault
link_of path key d =
    if is_path key then and_then (target_in path d) (λ target. Ok (record { path = key; target = target }))
    else Err (BadName path)

abbrev pub link_at : List ℕ → List Placed → List Link → List ℕ → Data → Result Link ReadPolicyFault
link_at path there seen key d = and_then (link_of (below path key) key d)
    (λ link. and_then (placed_at (below path key) (link_placed link) (there ++ map link_placed seen)) (λ _. Ok link))

abbrev pub links_in : List Placed → List ℕ → Data → Result (List Link) ReadPolicyFault
links_in there path (table ms) = each_member (link_at path there) [] ms
links_in there path _ = Err (BadValue path)

-- ---- a tree

abbrev pub embedded_of : List ℕ → Members → Result Embedded ReadPolicyFault
embedded_of path ms = and_then (optional path (codes "files") [] files_in ms)
    (λ files. and_then (optional path (codes "folders") [] (folders_in (map file_placed files)) ms)
    (λ folders. and_then (optional path (codes "links") [] (links_in (map file_placed files ++ map folder_placed folders)) ms)
    (λ links. Ok (record { files = files; folders = folders; links = links }))))

abbrev pub absent_at : List ℕ → Option Data → Result (Unit {0}) ReadPolicyFault
absent_at path None = Ok tt
absent_at path (Some d) = Err (BadValue path)

-- a key that another one rules out
abbrev pub absent : List ℕ → List ℕ → Members → Result (Unit {0}) ReadPolicyFault
absent path key ms = absent_at (below path key) (get_member key ms)

abbrev pub mount_of : List ℕ → Data → Members → Result TreeContent ReadPolicyFault
mount_of path d ms = and_then (any_text (below path (codes "mount")) d)
    (λ folder. and_then (absent path (codes "files") ms)
    (λ _. and_then (absent path (codes "folders") ms)
    (λ _. and_then (absent path (codes "links") ms)
    (λ _. Ok (Mount folder)))))

abbrev pub content_by : List ℕ → Option Data → Members → Result TreeContent ReadPolicyFault
content_by path (Some d) ms = mount_of path d ms
content_by path None ms = and_then (embedded_of path ms) (λ embedded. Ok (Written embedded))

-- the first version has no links
abbrev pub tree_keys : Version → List (List ℕ)
tree_keys One = codes "name" ∷ codes "mount" ∷ codes "files" ∷ codes "folders" ∷ []
tree_keys Two = codes "name" ∷ codes "mount" ∷ codes "files" ∷ codes "folders" ∷ codes "links" ∷ []

-- a name that is none of those that are taken
abbrev pub new_name : List (List ℕ) → List ℕ → Data → Result (List ℕ) ReadPolicyFault
new_name taken = text_such (λ name. not (is_known taken name))

abbrev pub tree_of : List (List ℕ) → List ℕ → Members → Result TreeSource ReadPolicyFault
tree_of taken path ms = and_then (required path (codes "name") (new_name taken) ms)
    (λ name. and_then (content_by path (get_member (codes "mount") ms) ms)
    (λ content. Ok (record { name = name; content = content })))

-- the tree at a place, whose name no passed folder and no earlier tree has
abbrev pub tree_at : Version → List (List ℕ) → List ℕ → List TreeSource → Data → Result TreeSource ReadPolicyFault
tree_at version shown path seen d = table_in (tree_keys version) (tree_of (shown ++ tree_names seen)) (nth path (length seen)) d
