use Rattle.std.proofs.Common.{arith}
use Rattle.core_slots.proofs.WordLaws.{set_top_at}
use Rattle.core_slots.proofs.slots.Slots.set_top.Goals as goal

pub returns : goal.returns
returns c = set_top_at _ _ _ _ _ _ _ c.self.invariant c.self.view_is c.requires (omega arith)
