-- Nodes of trees by their numbers, in which each folder's children stand together in order.
use Rattle.std.specs.Prelude.{◌≡◌, ℕ, zero, suc, ◌<◌, ◌≤◌, ◌&&◌, List, [], ◌∷◌, Option, Some, None, length, nat_eq, nat_lt, if◌then◌else◌}
use Rattle.std.specs.Ordering.{nat_cmp}
use Rattle.std.specs.Cmp.Lexicographic.{slice_cmp}
use Rattle.std.specs.declared.cmp.Ordering.TheVariants.{Less}
use Rattle.tree_table.specs.declared.entries.Node.{Node}
use Rattle.tree_table.specs.Trees.{same_path}

-- There are n nodes, the first of which are the roots, tree by tree.
pub record IsForest (n roots : ℕ) (tree : ℕ → ℕ) (name : ℕ → List ℕ) (parent from to : ℕ → ℕ) : Type 0 where
  pub some : roots ≤ n
  pub roots_trees : (i : ℕ) → i < roots → tree i ≡ i
  pub roots_names : (i : ℕ) → i < roots → name i ≡ []
  -- another node's folder stands before it, and the node among that folder's children
  pub up : (i : ℕ) → roots ≤ i → i < n → parent i < i
  pub home : (i : ℕ) → roots ≤ i → i < n → tree (parent i) ≡ tree i
  pub above_from : (i : ℕ) → roots ≤ i → i < n → from (parent i) ≤ i
  pub below_to : (i : ℕ) → roots ≤ i → i < n → i < to (parent i)
  -- the children of a node are a range after the roots
  pub ordered : (i : ℕ) → i < n → from i ≤ to i
  pub inside : (i : ℕ) → i < n → to i ≤ n
  pub behind : (i : ℕ) → i < n → roots ≤ from i
  pub own : (i j : ℕ) → i < n → from i ≤ j → j < to i → parent j ≡ i
  pub sorted : (i a b : ℕ) → i < n → from i ≤ a → a < b → b < to i → slice_cmp nat_cmp (name a) (name b) ≡ Less
  pub short : (i : ℕ) → i < n → length (name i) ≤ 255

-- the path of a node, by that many steps up at most
abbrev pub steps_up : ℕ → (ℕ → List ℕ) → (ℕ → ℕ) → ℕ → ℕ → List (List ℕ)
steps_up roots name parent zero i = []
steps_up roots name parent (suc steps) i = if nat_lt i roots then [] else name i ∷ steps_up roots name parent steps (parent i)

abbrev pub path_by : ℕ → (ℕ → List ℕ) → (ℕ → ℕ) → ℕ → List (List ℕ)
path_by roots name parent i = steps_up roots name parent i i

-- what the first that many nodes have at a path of a tree
abbrev pub look_in : (ℕ → ℕ) → (ℕ → List (List ℕ)) → (ℕ → Node) → ℕ → ℕ → List (List ℕ) → Option Node
look_in tree path kind zero t p = None
look_in tree path kind (suc n) t p = if nat_eq (tree n) t && same_path (path n) p then Some (kind n) else look_in tree path kind n t p
