use Rattle.std.proofs.Common.{◌≡◌, None, [], ◌∷◌, ◌++◌, length, ap, ◌∙◌, arith}
use Rattle.std.proofs.lemmas.List.{map_push, replicate_more}
use Rattle.std.proofs.lemmas.Grind.{common_steps}
use Rattle.slot_tables.specs.Places.{entry_of}
use Rattle.slot_tables.proofs.Chain.{sound-push}
use Rattle.slot_tables.proofs.slots.Slots.new.Goals as goal

pub loop-at-preserved : goal.loop-at-preserved
loop-at-preserved g c =
    let len : length c.loop-at.places.items ≡ c.loop-at.at = grind (arith, common_steps) in
    record {
      sound = rw c.push_reserved.ensures.items (sound-push _ c.loop-at.at c.loop-at.first len c.loop-at.invariant.sound);
      free = rw c.push_reserved.ensures.items (map_push entry_of _ _ ∙ ap (λ xs. xs ++ None ∷ []) c.loop-at.invariant.free ∙ replicate_more c.loop-at.at None);
      len = grind (arith, common_steps);
      room = grind (arith, common_steps);
    }
