-- Trees in order, one after another.
use Rattle.std.proofs.Common.{List, [], ◌∷◌, ◌++◌}
use Rattle.tree_table.specs.declared.entries.NamedTree.{NamedTree}
use Rattle.mount_tree.specs.declared.forest.MadeTree.{MadeTree}
use Rattle.mount_tree.specs.Ordered.{IsOrdered, AreOrdered}

pub ordered_more : (made : List MadeTree) (trees : List NamedTree) (m : MadeTree) (t : NamedTree) → AreOrdered made trees → IsOrdered m t → AreOrdered (made ++ m ∷ []) (trees ++ t ∷ [])
ordered_more [] [] m t h is = (is, tt)
ordered_more [] (x ∷ xs) m t h is = absurd h
ordered_more (x ∷ xs) [] m t h is = absurd h
ordered_more (x ∷ xs) (y ∷ ys) m t h is = (h.0, ordered_more xs ys m t h.1 is)
