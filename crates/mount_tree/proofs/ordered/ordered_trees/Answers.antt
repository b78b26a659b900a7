use Rattle.std.proofs.Common.{◌∙◌, sym, ap, subst, [], ◌∷◌, ◌++◌}
use Rattle.std.proofs.Math.Seq.{append_snoc}
use Rattle.std.specs.Vec.Iter.{into_iter_items}
use Rattle.mount_tree.specs.Ordered.{AreOrdered}
use Rattle.mount_tree.proofs.OrderedLemmas.{ordered_more}
use Rattle.mount_tree.proofs.ordered.ordered_trees.Goals as goal

pub loop-tree-preserved : goal.loop-tree-preserved
loop-tree-preserved c =
    let so = c.loop-tree.invariant in (
      so.0 ++ c.in-Some.tree ∷ [],
      so.1 ∙ ap (λ xs. so.0 ++ xs) c.in-Some.ensures.items ∙ sym (append_snoc so.0 c.in-Some.tree (into_iter_items c.next.new.self)),
      subst (AreOrdered (so.0 ++ c.in-Some.tree ∷ [])) (sym c.in_ok-push.ensures.ok)
          (ordered_more so.0 c.loop-tree.named c.in-Some.tree c.in_ok-ordered_tree.field-0 so.2 c.in_ok-ordered_tree.ensures),
    )
