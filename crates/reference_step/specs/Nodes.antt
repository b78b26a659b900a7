-- What trees and the scratch folder hold.
use Rattle.std.specs.Prelude.{ℕ, ◌+◌, ◌==◌, nat_lt, not, Bool, true, false, List, [], ◌∷◌, length, reverse, drop, filter, filter_map, position, Option, Some, None, is_some, unwrap_or, if◌then◌else◌}
use Rattle.std.specs.List.{list_any}
use Rattle.wit_types.specs.PlainValue.{PlainValue, StringValue}
use Rattle.tree_table.specs.declared.entries.Node.{Node as TreeNode}
use Rattle.tree_table.specs.declared.entries.Node.TheVariants.{Folder, File, Link}
use Rattle.tree_table.specs.declared.entries.Entry.{Entry}
use Rattle.tree_table.specs.declared.entries.NamedTree.{NamedTree}
use Rattle.tree_table.specs.Trees.{entries_of, tree_map, same_path}
use Rattle.tree_table.specs.Paths.{Path, Answer, At, Fails, Part, Stay, Up, Named as NamedPart, resolve, parts_of, part_of, is_rooted}
use Rattle.tree_table.specs.Scratches.{ScratchMap, find_file, scratch_tree}
use Rattle.reference_step.specs.Codes as code
use Rattle.reference_step.specs.Handles.{DirectoryEntry}
use Rattle.reference_step.specs.Values.{number, label, none, record_of}

-- ---- trees

-- what the tree at a place has at a path
abbrev pub node_at : List NamedTree → ℕ → Path → Option TreeNode
node_at trees tree path = tree_map (entries_of trees tree) path

-- where a text leads from a node
abbrev pub lead : List NamedTree → ℕ → Path → List ℕ → Bool → Answer
lead trees tree path text follow = resolve (tree_map (entries_of trees tree)) path text follow

abbrev pub file_bytes : Option TreeNode → List ℕ
file_bytes (Some (File content)) = content
file_bytes _ = []

-- the bytes of the file at a path
abbrev pub bytes_at : List NamedTree → ℕ → Path → List ℕ
bytes_at trees tree path = file_bytes (node_at trees tree path)

abbrev pub type_of : Option TreeNode → ℕ
type_of None = code.directory
type_of (Some Folder) = code.directory
type_of (Some (File content)) = code.regular_file
type_of (Some (Link target)) = code.symbolic_link

abbrev pub size_of : Option TreeNode → ℕ
size_of None = 0
size_of (Some Folder) = 0
size_of (Some (File content)) = length content
size_of (Some (Link target)) = length target

abbrev pub child_by : TreeNode → Path → Path → Option DirectoryEntry
child_by node path [] = None
child_by node path (name ∷ above) = if same_path above path then Some (record { ty = type_of (Some node); name = name }) else None

-- the entry, where it is in the folder of a path
abbrev pub child_of : Path → Entry → Option DirectoryEntry
child_of path e = child_by e.node path (reverse e.path)

-- what is in the folder at a path, in byte order
abbrev pub children_at : List NamedTree → ℕ → Path → List DirectoryEntry
children_at trees tree path = filter_map (child_of path) (entries_of trees tree)

-- the path's place in the tree's order, where the root has 0
abbrev pub place_at : List NamedTree → ℕ → Path → ℕ
place_at trees tree path = unwrap_or (position (λ e. same_path (reverse e.path) path) (entries_of trees tree)) 0

-- ---- the scratch folder

-- where a text leads from its root
pub data Found : Type 0 where
  TheRoot : Found
  TheFile : (number : ℕ) → Found
  Missing : (code : ℕ) → Found

abbrev pub found_file : Option ℕ → Found
found_file None = Missing code.no_entry
found_file (Some number) = TheFile number

abbrev pub found_at : ScratchMap → Answer → Found
found_at m (Fails code) = Missing code
found_at m (At []) = TheRoot
found_at m (At (name ∷ above)) = found_file (find_file m name)

abbrev pub lead_in : ScratchMap → List ℕ → Found
lead_in m text = found_at m (resolve (scratch_tree m) [] text false)

-- a name that a path may give to a new file, or the error code
pub data NewName : Type 0 where
  Named : (name : List ℕ) → NewName
  Unnamed : (code : ℕ) → NewName

abbrev pub is_stay : Part → Bool
is_stay Stay = true
is_stay Up = false
is_stay NamedPart = false

abbrev pub last_stays : List (List ℕ) → Bool
last_stays [] = true
last_stays (part ∷ []) = is_stay (part_of part)
last_stays (part ∷ next ∷ parts) = last_stays (next ∷ parts)

abbrev pub legal : List ℕ → NewName
legal name =
    if nat_lt 255 (length name) then Unnamed code.name_too_long
    else if list_any (λ b. b == 0) name then Unnamed code.illegal_byte_sequence
    else Named name

abbrev pub name_by : Part → List ℕ → NewName
name_by Stay name = Unnamed code.no_entry
name_by Up name = Unnamed code.no_entry
name_by NamedPart name = legal name

-- one name alone
abbrev pub only_name : List (List ℕ) → NewName
only_name (name ∷ []) = name_by (part_of name) name
only_name _ = Unnamed code.no_entry

-- A path has a new name where its parts, but empty ones and `.`, are exactly one name, and that is the last part.
abbrev pub new_name : List ℕ → NewName
new_name text =
    if is_rooted text then Unnamed code.no_entry
    else if last_stays (parts_of text) then Unnamed code.no_entry
    else only_name (filter (λ part. not (is_stay (part_of part))) (parts_of text))

abbrev pub next_by : ScratchMap → ℕ → Option ℕ → Option ℕ
next_by m from None = None
next_by m from (Some steps) = Some (from + steps)

-- the least number of a file from one on
abbrev pub next_file : ScratchMap → ℕ → Option ℕ
next_file m from = next_by m from (position is_some (drop from m.files))

-- ---- values of wasi:filesystem/types

-- descriptor-stat: one link, a size, and no times
abbrev pub stat_value : (ty size : ℕ) → PlainValue
stat_value ty size = record_of (label ty ∷ number 1 ∷ number size ∷ none ∷ none ∷ none ∷ [])

-- metadata-hash-value
abbrev pub hash_value : (lower upper : ℕ) → PlainValue
hash_value lower upper = record_of (number lower ∷ number upper ∷ [])

-- directory-entry
abbrev pub entry_value : DirectoryEntry → PlainValue
entry_value e = record_of (label e.ty ∷ StringValue e.name ∷ [])
