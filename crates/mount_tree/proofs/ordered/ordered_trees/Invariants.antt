use Rattle.std.proofs.Common.{◌≡◌, ◌++◌, length, List}
use Rattle.std.specs.Vec.Iter.{into_iter_items}
use Rattle.mount_tree.specs.declared.forest.MadeTree.{MadeTree}
use Rattle.mount_tree.specs.Ordered.{AreOrdered}
use Rattle.mount_tree.proofs.ordered.ordered_trees.Given as goal

abbrev pub invariant-loop-tree : goal.invariant-loop-tree
invariant-loop-tree l = (before : List MadeTree) × (l.fn.trees ≡ before ++ into_iter_items l.rest) × AreOrdered before l.named

abbrev pub decreases-loop-tree : goal.decreases-loop-tree
decreases-loop-tree l = length (into_iter_items l.rest)
