-- How nodes in order hang together.
use Rattle.std.specs.Prelude.{◌≡◌, ℕ, zero, suc, ◌+◌, ◌<◌, ◌≤◌, List, [], ◌∷◌, ◌++◌, Option, length, slice_get, slice_index_or}
use Rattle.std.specs.Option.{option_map_or}
use Rattle.tree_table.specs.declared.entries.Entry.{Entry}
use Rattle.tree_table.specs.declared.entries.NamedTree.{NamedTree}
use Rattle.tree_table.specs.declared.entries.Node.TheVariants.{Folder}
use Rattle.tree_table.specs.declared.order.Key.{Key}
use Rattle.tree_table.specs.Trees.{entries_of}
use Rattle.tree_table.specs.Orders.{key_at}
use Rattle.tree_table.specs.Tables.{Row}

-- the entry of a key, and its path
abbrev pub entry_of : List NamedTree → Key → Option Entry
entry_of trees key = slice_get (entries_of trees key.tree) key.place

abbrev pub path_in : List NamedTree → Key → List (List ℕ)
path_in trees key = option_map_or (λ e. e.path) (entry_of trees key) []

-- the one path is the other with one name more
pub record IsLonger (upper lower : List (List ℕ)) : Type 0 where
  pub name : List ℕ
  pub is : lower ≡ upper ++ name ∷ []

-- the one node is the folder in which the other is
pub record IsFolderOf (trees : List NamedTree) (upper lower : Key) : Type 0 where
  pub tree : upper.tree ≡ lower.tree
  pub path : IsLonger (path_in trees upper) (path_in trees lower)

-- Among the first n nodes, R of which are roots: each node's folder, and the first child of each, which is the end where it has none.
pub record IsLinked (trees : List NamedTree) (n R : ℕ) (key : ℕ → Key) (parent first : ℕ → ℕ) : Type 0 where
  pub up : (i : ℕ) → R ≤ i → i < n → parent i < i
  pub folder : (i : ℕ) → R ≤ i → i < n → IsFolderOf trees (key (parent i)) (key i)
  pub low : (i : ℕ) → R ≤ i → i < n → first (parent i) ≤ i
  pub high : (i : ℕ) → R ≤ i → i < n → i < first (suc (parent i))
  pub rising : (a b : ℕ) → a ≤ b → first a ≤ first b
  pub inside : (a : ℕ) → first a ≤ n
  pub behind : (a : ℕ) → R ≤ first a
  pub own : (a j : ℕ) → first a ≤ j → j < first (suc a) → parent j ≡ a

pub record AreLinks (trees : List NamedTree) (order : List Key) (parents first : List ℕ) : Type 0 where
  pub parents_size : length parents ≡ length order
  pub first_size : length first ≡ length order + 1
  pub linked : IsLinked trees (length order) (length trees) (key_at order) (λ i. slice_index_or parents i 0) (λ a. slice_index_or first a (length order))

-- the last name of a path from the root on
abbrev pub end_name : List (List ℕ) → List ℕ
end_name [] = []
end_name (x ∷ []) = x
end_name (x ∷ y ∷ p) = end_name (y ∷ p)

-- the row of the node of this number
abbrev pub row_for : List NamedTree → List Key → List ℕ → List ℕ → ℕ → Row
row_for trees order parents first i = record {
  tree = (key_at order i).tree;
  place = (key_at order i).place;
  name = end_name (path_in trees (key_at order i));
  parent = slice_index_or parents i 0;
  from = slice_index_or first i (length order);
  to = slice_index_or first (i + 1) (length order);
  node = option_map_or (λ e. e.node) (entry_of trees (key_at order i)) Folder;
}

abbrev pub rows_upto : List NamedTree → List Key → List ℕ → List ℕ → ℕ → List Row
rows_upto trees order parents first zero = []
rows_upto trees order parents first (suc n) = rows_upto trees order parents first n ++ row_for trees order parents first n ∷ []
