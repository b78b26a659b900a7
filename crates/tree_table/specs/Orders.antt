-- The order in which nodes have their numbers: the roots, and then what is below them by depth, tree and place.
use Rattle.std.specs.Prelude.{◌≡◌, ℕ, zero, suc, ◌<◌, ◌≤◌, ◌⊎◌, List, [], ◌∷◌, ◌++◌, length, drop, Some, slice_get, slice_index_or}
use Rattle.tree_table.specs.declared.entries.Entry.{Entry}
use Rattle.tree_table.specs.declared.entries.NamedTree.{NamedTree}
use Rattle.tree_table.specs.declared.order.Key.{Key}
use Rattle.tree_table.specs.Trees.{entries_of, node_count}

abbrev pub root_key : ℕ → Key
root_key tree = record { depth = 0; tree = tree; place = 0 }

abbrev pub roots_upto : ℕ → List Key
roots_upto zero = []
roots_upto (suc n) = roots_upto n ++ root_key n ∷ []

-- the entries of a tree, the first of which is at this place
abbrev pub keys_from : ℕ → ℕ → List Entry → List Key
keys_from tree place [] = []
keys_from tree place (e ∷ es) = record { depth = length e.path; tree = tree; place = place } ∷ keys_from tree (suc place) es

-- what is below the roots of trees, the first of which is at this place
abbrev pub inner_from : ℕ → List NamedTree → List Key
inner_from tree [] = []
inner_from tree (t ∷ ts) = keys_from tree 1 (drop 1 t.entries) ++ inner_from (suc tree) ts

abbrev pub key_at : List Key → ℕ → Key
key_at order i = slice_index_or order i (root_key 0)

-- the key stands for an entry other than its tree's first
pub record IsIn (entries : List Entry) (key : Key) : Type 0 where
  pub entry : Entry
  pub there : slice_get entries key.place ≡ Some entry
  pub depth : key.depth ≡ length entry.path
  pub behind : 0 < key.place

abbrev pub Before : Key → Key → Type 0
Before a b = (a.depth < b.depth) ⊎ ((a.depth ≡ b.depth) × ((a.tree < b.tree) ⊎ ((a.tree ≡ b.tree) × (a.place < b.place))))

pub record IsOrder (trees : List NamedTree) (order : List Key) : Type 0 where
  pub size : length order ≡ node_count trees
  pub enough : length trees ≤ length order
  pub roots : (i : ℕ) → i < length trees → key_at order i ≡ root_key i
  pub placed : (i : ℕ) → length trees ≤ i → i < length order → IsIn (entries_of trees (key_at order i).tree) (key_at order i)
  pub rising : (i j : ℕ) → length trees ≤ i → i < j → j < length order → Before (key_at order i) (key_at order j)
  pub whole : (t p : ℕ) (e : Entry) → slice_get (entries_of trees t) (suc p) ≡ Some e → (i : ℕ) × (length trees ≤ i) × (i < length order) × (key_at order i ≡ record { depth = length e.path; tree = t; place = suc p })
