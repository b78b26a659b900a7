-- The entries of a tree in the making, each after its folder, and what can be added to them.
use Rattle.std.specs.Prelude.{◌≡◌, ℕ, ◌<◌, List, [], ◌∷◌, ◌++◌, Bool, true, false, not, ◌&&◌, Option, Some, None, String, length, slice_get, if◌then◌else◌}
use Rattle.std.specs.List.{list_any}
use Rattle.std.specs.Option.{option_map_or}
use Rattle.std.specs.BTreeMap.{BTreeMap, get_by_text}
use Rattle.tree_table.specs.declared.entries.Node.{Node}
use Rattle.tree_table.specs.declared.entries.Node.TheVariants.{Folder, File, Link}
use Rattle.tree_table.specs.declared.entries.Entry.{Entry}
use Rattle.tree_table.specs.Trees.{same_path}
use Rattle.tree_table.specs.Linked.{IsLonger}
use Rattle.tree_table.specs.Stored.{entry_at, node_at, path_at, root_entry}

abbrev pub is_folder : Node → Bool
is_folder Folder = true
is_folder (File bytes) = false
is_folder (Link target) = false

-- whether something stands at a path
abbrev pub holds : List Entry → List (List ℕ) → Bool
holds there path = list_any (λ entry. same_path entry.path path) there

-- whether a folder stands at it
abbrev pub houses : List Entry → List (List ℕ) → Bool
houses there path = list_any (λ entry. same_path entry.path path && is_folder entry.node) there

-- whether a name is free in the folder at a path
abbrev pub is_free : List Entry → List (List ℕ) → List ℕ → Bool
is_free there above name = houses there above && not (holds there (above ++ name ∷ []))

-- with this name in the folder at a path; where the name is not free there, nothing is added
abbrev pub with_node : List Entry → List (List ℕ) → List ℕ → Node → List Entry
with_node there above name node = if is_free there above name then there ++ record { path = above ++ name ∷ []; node = node } ∷ [] else there

-- with folders for all of these names but the last, one in another, in the folder at a path
abbrev pub with_folders : List Entry → List (List ℕ) → List (List ℕ) → List Entry
with_folders there above [] = there
with_folders there above (name ∷ []) = there
with_folders there above (name ∷ next ∷ names) = with_folders (with_node there above name Folder) (above ++ name ∷ []) (next ∷ names)

-- a path without its last name
abbrev pub above_of : List (List ℕ) → List (List ℕ)
above_of [] = []
above_of (name ∷ []) = []
above_of (name ∷ next ∷ names) = name ∷ above_of (next ∷ names)

-- ---- what every tree in the making is

-- an entry is in a folder that stands before it
pub record IsHoused (there : List Entry) (number : ℕ) : Type 0 where
  pub folder : ℕ
  pub before : folder < number
  pub node : node_at there folder ≡ Folder
  pub path : IsLonger (path_at there folder) (path_at there number)

pub record IsGrown (there : List Entry) : Type 0 where
  pub some : 0 < length there
  pub root : entry_at there 0 ≡ root_entry
  pub housed : (number : ℕ) → 0 < number → number < length there → IsHoused there number
  pub distinct : (i j : ℕ) → i < length there → j < length there → path_at there i ≡ path_at there j → i ≡ j

-- ---- finding entries by their names

-- the number of the folder at a path; none where no folder stands there
abbrev pub IsAt : List Entry → List (List ℕ) → Option ℕ → Type 0
IsAt there above (Some folder) = (folder < length there) × (path_at there folder ≡ above) × (node_at there folder ≡ Folder)
IsAt there above None = houses there above ≡ false

-- the number that the name has in the folder of a number
abbrev pub child_in : {Y : Type 0} → List (BTreeMap (String Y) ℕ) → ℕ → List ℕ → Option ℕ
child_in maps folder name = option_map_or (λ names. get_by_text names name) (slice_get maps folder) None

-- the maps lead from each entry to those in it
pub record IsIndex {Y : Type 0} (there : List Entry) (maps : List (BTreeMap (String Y) ℕ)) : Type 0 where
  pub grown : IsGrown there
  pub size : length maps ≡ length there
  pub found : (folder : ℕ) (name : List ℕ) (number : ℕ) → child_in maps folder name ≡ Some number → (number < length there) × (path_at there number ≡ path_at there folder ++ name ∷ [])
  pub each : (folder number : ℕ) (name : List ℕ) → folder < length there → number < length there → path_at there number ≡ path_at there folder ++ name ∷ [] → child_in maps folder name ≡ Some number
