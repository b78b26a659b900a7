use Rattle.std.proofs.Common.{◌≡◌, ◌+◌, ◌-◌, ℕ, ◌<◌, ◌≤◌, length}
use Rattle.tree_table.specs.Orders.{key_at}
use Rattle.tree_table.specs.Linked.{IsFolderOf}
use Rattle.tree_table.proofs.LinkLemmas.{Linked}
use Rattle.tree_table.proofs.links.link.Given as goal

-- the nodes before this one are linked
abbrev pub invariant-loop-node : goal.invariant-loop-node
invariant-loop-node l = record {
  parents_size : length l.parents.items ≡ l.node;
  first_size : length l.first.items ≡ l.parent + 1;
  enough : length l.trees ≤ l.node;
  before : l.parent ≤ l.node;
  linked : Linked l.trees (length l.trees) (key_at l.order) l.node l.parents.items l.first.items;
  later : (q : ℕ) → l.node < length l.order → q < l.node → IsFolderOf l.trees (key_at l.order q) (key_at l.order l.node) → l.parent ≤ q;
}

-- this node's folder is still to come
abbrev pub invariant-loop-parent : goal.invariant-loop-parent
invariant-loop-parent l = record {
  first_size : length l.first.items ≡ l.parent + 1;
  linked : Linked l.trees (length l.trees) (key_at l.order) l.node l.parents.items l.first.items;
  folder : (q : ℕ) × (l.parent ≤ q) × (q < l.node) × IsFolderOf l.trees (key_at l.order q) (key_at l.order l.node);
}

abbrev pub decreases-loop-parent : goal.decreases-loop-parent
decreases-loop-parent l = l.node - l.parent

abbrev pub invariant-loop-first : goal.invariant-loop-first
invariant-loop-first l = record {
  first_size : length l.first.items ≤ length l.order + 1;
  linked : Linked l.trees (length l.trees) (key_at l.order) (length l.order) l.parents.items l.first.items;
}

abbrev pub decreases-loop-first : goal.decreases-loop-first
decreases-loop-first l = length l.order + 1 - length l.first.items
