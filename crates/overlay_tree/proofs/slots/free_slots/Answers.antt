use Rattle.std.proofs.Common.{◌≡◌, None, [], ◌∷◌, ◌++◌, ap, ◌∙◌, arith}
use Rattle.std.proofs.lemmas.List.{replicate_more}
use Rattle.std.proofs.lemmas.Grind.{common_steps}
use Rattle.overlay_tree.proofs.slots.free_slots.Goals as goal

pub loop-preserved : goal.loop-preserved
loop-preserved c =
    record {
      free = rw (c.push_reserved.ensures.items, c.in_ok-new.ensures) (ap (λ xs. xs ++ None ∷ []) c.loop.invariant.free ∙ replicate_more c.loop.counter None);
      len = grind (arith, common_steps);
      room = grind (arith, common_steps);
    }
