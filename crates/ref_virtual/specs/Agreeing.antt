-- A table that holds trees says of each of its nodes what the definition says of the path that the node stands for.
use Rattle.std.specs.Prelude.{◌≡◌, ℕ, ◌<◌, Bool, List, Some}
use Rattle.tree_table.specs.declared.entries.NamedTree.{NamedTree}
use Rattle.tree_table.specs.Tables.{Forest, Holds, count_of, tree_of, place_of, path_of, node_of, map_of}
use Rattle.tree_table.specs.Paths.{resolve}
use Rattle.tree_table.specs.Trees.{AreTrees}
use Rattle.reference_step.specs.Nodes.{node_at, lead, place_at, children_at}
use Rattle.ref_answers.specs.Seen.{entries_of_node}

pub record Agrees (trees : List NamedTree) (f : Forest) (i : ℕ) : Type 0 where
  -- what the node is
  pub node : node_at trees (tree_of f i) (path_of f i) ≡ Some (node_of f i)
  -- where a text leads from it
  pub leads : (text : List ℕ) (follow : Bool) → lead trees (tree_of f i) (path_of f i) text follow ≡ resolve (map_of f (tree_of f i)) (path_of f i) text follow
  -- its path's place in the tree's order
  pub place : place_at trees (tree_of f i) (path_of f i) ≡ place_of f i
  -- what is in it, in byte order
  pub children : children_at trees (tree_of f i) (path_of f i) ≡ entries_of_node f i
  -- no other node has its path
  pub alone : (other : ℕ) → other < count_of f → tree_of f other ≡ tree_of f i → path_of f other ≡ path_of f i → other ≡ i

abbrev pub TablesAgree : Type 0
TablesAgree = (trees : List NamedTree) (f : Forest) → AreTrees trees → Holds trees f → (i : ℕ) → i < count_of f → Agrees trees f i
