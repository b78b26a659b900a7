-- What a table of nodes stands for.
use Rattle.std.specs.Prelude.{◌≡◌, ℕ, ◌<◌, List, [], ◌∷◌, Option, Some, length, max, slice_get, reverse}
use Rattle.std.specs.Option.{option_map_or}
use Rattle.tree_table.specs.declared.entries.Node.{Node}
use Rattle.tree_table.specs.declared.entries.Node.TheVariants.{Folder, File, Link}
use Rattle.tree_table.specs.declared.entries.Entry.{Entry}
use Rattle.tree_table.specs.declared.entries.NamedTree.{NamedTree}
use Rattle.tree_table.specs.Paths.{parts_of}
use Rattle.tree_table.specs.Trees.{entries_of, node_count, tree_map}
use Rattle.tree_table.specs.Forests.{IsForest, path_by, look_in}
use Rattle.tree_table.specs.Folders.{AreChildren}

-- A node: the place of its tree, its path's place in the tree's order, its name, its folder, the range of its children, and what it is.
pub record Row : Type 0 where
  pub tree : ℕ
  pub place : ℕ
  pub name : List ℕ
  pub parent : ℕ
  pub from : ℕ
  pub to : ℕ
  pub node : Node

-- the nodes by their numbers, the roots first
pub record Forest : Type 0 where
  pub roots : ℕ
  pub rows : List Row

abbrev pub target_parts : Node → ℕ
target_parts Folder = 0
target_parts (File content) = 0
target_parts (Link target) = length (parts_of target)

abbrev pub longest_among : List Row → ℕ
longest_among [] = 0
longest_among (row ∷ rows) = max (target_parts row.node) (longest_among rows)

module _ (f : Forest) where
  -- how many nodes there are, and how many trees
  abbrev pub count_of : ℕ
  count_of = length f.rows

  abbrev pub tree_count : ℕ
  tree_count = f.roots

  -- the place of a node's tree
  abbrev pub tree_of : ℕ → ℕ
  tree_of i = option_map_or (λ row. row.tree) (slice_get f.rows i) 0

  -- the place of a node's path in the tree's order
  abbrev pub place_of : ℕ → ℕ
  place_of i = option_map_or (λ row. row.place) (slice_get f.rows i) 0

  abbrev pub name_of : ℕ → List ℕ
  name_of i = option_map_or (λ row. row.name) (slice_get f.rows i) []

  abbrev pub parent_of : ℕ → ℕ
  parent_of i = option_map_or (λ row. row.parent) (slice_get f.rows i) 0

  abbrev pub from_of : ℕ → ℕ
  from_of i = option_map_or (λ row. row.from) (slice_get f.rows i) 0

  abbrev pub to_of : ℕ → ℕ
  to_of i = option_map_or (λ row. row.to) (slice_get f.rows i) 0

  -- what a node is
  abbrev pub node_of : ℕ → Node
  node_of i = option_map_or (λ row. row.node) (slice_get f.rows i) Folder

  -- the path of a node
  abbrev pub path_of : ℕ → List (List ℕ)
  path_of i = path_by f.roots name_of parent_of i

  -- the path map of the tree at a place
  abbrev pub map_of : ℕ → List (List ℕ) → Option Node
  map_of t p = look_in tree_of path_of node_of (length f.rows) t p

  -- the greatest number of parts of a target
  abbrev pub longest_of : ℕ
  longest_of = longest_among f.rows

  abbrev pub IsSound : Type 0
  IsSound = IsForest (length f.rows) f.roots tree_of name_of parent_of from_of to_of

-- a path's last name; the root's is empty
abbrev pub last_name : List (List ℕ) → List ℕ
last_name [] = []
last_name (name ∷ above) = name

abbrev pub content_of : Node → List ℕ
content_of Folder = []
content_of (File content) = content
content_of (Link target) = target

-- the nodes from `from` up to `to` are the children of a node of the table
abbrev pub HasChildren : Forest → ℕ → ℕ → ℕ → Type 0
HasChildren f node from to = AreChildren (map_of f) (tree_of f) (path_of f) (name_of f) (count_of f) node from to

-- the node of this number is the entry at its place of its tree
pub record IsEntry (trees : List NamedTree) (f : Forest) (i : ℕ) : Type 0 where
  pub entry : Entry
  pub there : slice_get (entries_of trees (tree_of f i)) (place_of f i) ≡ Some entry
  pub path : path_of f i ≡ reverse entry.path
  pub node : node_of f i ≡ entry.node

-- the table has the nodes of these trees
pub record Holds (trees : List NamedTree) (f : Forest) : Type 0 where
  -- the roots come first, each folder's children are a range of numbers, and each other node is in one folder
  pub forest : IsSound f
  pub roots : tree_count f ≡ length trees
  pub count : count_of f ≡ node_count trees
  pub entries : (i : ℕ) → i < count_of f → IsEntry trees f i
  pub maps : (t : ℕ) (p : List (List ℕ)) → map_of f t p ≡ tree_map (entries_of trees t) p
