-- What the definition reads of trees is what the table has.
use Rattle.std.proofs.Common.{◌≡◌, ◌<◌, ◌+◌, ℕ, Bool, List, Some, ap, ◌∙◌}
use Rattle.tree_table.specs.Tables.{Forest, count_of, tree_of, path_of, node_of, place_of, map_of}
use Rattle.tree_table.specs.Paths.{Answer, resolve}
use Rattle.reference_step.specs.Nodes.{node_at, lead, children_at, hash_value}
use Rattle.reference_step.specs.Values.{ok}
use Rattle.reference_step.specs.State.{View, returns}
use Rattle.reference_step.specs.Descriptors.{hash_of}
use Rattle.ref_answers.specs.Seen.{entries_of_node}
use Rattle.ref_virtual.specs.Agreeing.{Agrees}
use Rattle.ref_virtual.proofs.TreeLaws.{tables_agree}
use Rattle.ref_virtual.specs.Views.{HoldsTrees}

module _ (f : Forest) (v : View) (h : HoldsTrees f v) (node : ℕ) (within : node < count_of f) where
  agrees : Agrees v.trees f node
  agrees = tables_agree v.trees f h.trees h.holds node within

  pub seen_node : node_at v.trees (tree_of f node) (path_of f node) ≡ Some (node_of f node)
  seen_node = agrees.node

  pub seen_children : children_at v.trees (tree_of f node) (path_of f node) ≡ entries_of_node f node
  seen_children = agrees.children

  pub seen_hash : hash_of v (tree_of f node) (path_of f node) ≡ returns (ok (hash_value (place_of f node) (tree_of f node + 1)))
  seen_hash = ap (λ n. returns (ok (hash_value n (tree_of f node + 1)))) agrees.place

  pub seen_lead : (text : List ℕ) (follow : Bool) (a : Answer) → resolve (map_of f (tree_of f node)) (path_of f node) text follow ≡ a → lead v.trees (tree_of f node) (path_of f node) text follow ≡ a
  seen_lead text follow a is = agrees.leads text follow ∙ is
