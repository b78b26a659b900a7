-- What trees have to be, and the path map of each.
use Rattle.std.specs.Prelude.{◌≡◌, ℕ, ◌+◌, ◌<◌, ◌≤◌, Bool, true, false, ◌&&◌, List, [], ◌∷◌, ◌++◌, reverse, length, All, Option, Some, None, slice_get, if◌then◌else◌}
use Rattle.std.specs.Option.{option_map_or}
use Rattle.std.specs.Ordering.{nat_cmp, is_eq}
use Rattle.std.specs.declared.cmp.Ordering.{Ordering}
use Rattle.std.specs.Cmp.Lexicographic.{slice_cmp}
use Rattle.std.specs.declared.cmp.Ordering.TheVariants.{Less}
use Rattle.path_names.specs.Paths.{is_name, is_target}
use Rattle.tree_table.specs.declared.entries.Node.{Node}
use Rattle.tree_table.specs.declared.entries.Node.TheVariants.{Folder, File, Link}
use Rattle.tree_table.specs.declared.entries.Entry.{Entry}
use Rattle.tree_table.specs.declared.entries.NamedTree.{NamedTree}

-- the tree's order: part by part in byte order, a folder before what is in it
abbrev pub path_cmp : List (List ℕ) → List (List ℕ) → Ordering
path_cmp = slice_cmp (slice_cmp nat_cmp)

abbrev pub IsShort : List ℕ → Type 0
IsShort name = length name ≤ 255

-- A tree's paths, the names from the root on. In each entry `e` at the place `i`:
pub record IsTree (entries : List Entry) : Type 0 where
  -- the root, which is a folder, comes first
  pub root : slice_get entries 0 ≡ Some (record { path = []; node = Folder })
  -- the paths stand in order
  pub ordered : (i j : ℕ) (a b : Entry) → i < j → slice_get entries i ≡ Some a → slice_get entries j ≡ Some b → path_cmp a.path b.path ≡ Less
  -- what a path is in is a folder of the tree, and so is each proper prefix
  pub folders : (i : ℕ) (e : Entry) (above : List (List ℕ)) (name : List ℕ) → slice_get entries i ≡ Some e → e.path ≡ above ++ name ∷ [] → (j : ℕ) × (slice_get entries j ≡ Some (record { path = above; node = Folder }))
  pub short : (i : ℕ) (e : Entry) → slice_get entries i ≡ Some e → All IsShort e.path

abbrev pub node_count : List NamedTree → ℕ
node_count [] = 0
node_count (tree ∷ trees) = length tree.entries + node_count trees

abbrev pub file_length : Node → ℕ
file_length Folder = 0
file_length (File content) = length content
file_length (Link target) = 0

abbrev pub target_length : Node → ℕ
target_length Folder = 0
target_length (File content) = 0
target_length (Link target) = length target

abbrev pub total_in : (Node → ℕ) → List Entry → ℕ
total_in size [] = 0
total_in size (e ∷ es) = size e.node + total_in size es

abbrev pub total : (Node → ℕ) → List NamedTree → ℕ
total size [] = 0
total size (tree ∷ trees) = total_in size tree.entries + total size trees

-- trees, of 65,536 nodes at most
pub record AreTrees (trees : List NamedTree) : Type 0 where
  pub each : (t : ℕ) (tree : NamedTree) → slice_get trees t ≡ Some tree → IsTree tree.entries
  pub nodes : node_count trees ≤ 65536

-- the entries of the tree at a place
abbrev pub entries_of : List NamedTree → ℕ → List Entry
entries_of trees t = option_map_or (λ tree. tree.entries) (slice_get trees t) []

-- The limits of trees that a policy gives. In each entry `e` at the place `i` of the tree `t`:
pub record KeepLimits (trees : List NamedTree) : Type 0 where
  pub names : (t i : ℕ) (e : Entry) → slice_get (entries_of trees t) i ≡ Some e → All (λ name. is_name name ≡ true) e.path
  pub deep : (t i : ℕ) (e : Entry) → slice_get (entries_of trees t) i ≡ Some e → length e.path ≤ 64
  pub targets : (t i : ℕ) (e : Entry) (target : List ℕ) → slice_get (entries_of trees t) i ≡ Some e → e.node ≡ Link target → is_target target ≡ true
  pub files : total file_length trees ≤ 67108864
  pub links : total target_length trees ≤ 16777216

abbrev pub same_path : List (List ℕ) → List (List ℕ) → Bool
same_path [] [] = true
same_path [] (y ∷ ys) = false
same_path (x ∷ xs) [] = false
same_path (x ∷ xs) (y ∷ ys) = is_eq (slice_cmp nat_cmp x y) && same_path xs ys

-- what entries say of a path, whose innermost name comes first
abbrev pub tree_map : List Entry → List (List ℕ) → Option Node
tree_map [] p = None
tree_map (e ∷ es) p = if same_path (reverse e.path) p then Some e.node else tree_map es p
