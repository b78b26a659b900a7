use Rattle.overlay_tree.proofs.MapLemmas.{numbered_in}
use Rattle.overlay_tree.proofs.scratch.Scratch.has_room.Goals as goal

pub has_room-requires-clause-number : goal.has_room-requires-clause-number
has_room-requires-clause-number c = rw c.deref.ensures.value (numbered_in c.args.self.now c.self.inside.blocks c.self.inside.slots.items c.self.inside.space c.args.number c.self.view_is c.requires)
