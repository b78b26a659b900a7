use Rattle.core_slots.proofs.WordLaws.{set_local_at}
use Rattle.core_slots.proofs.slots.Slots.set_local.Goals as goal

pub returns : goal.returns
returns c = set_local_at _ _ _ _ _ _ _ c.self.invariant c.self.view_is c.requires
