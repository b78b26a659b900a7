use Rattle.std.proofs.Common.{arith}
use Rattle.handle_space.proofs.Cells.{live_place, remove_sound, remove_shown}
use Rattle.handle_space.proofs.table.HandleTable.remove.Goals as goal

pub overflow_sub-place : goal.overflow_sub-place
overflow_sub-place c =
    let place = live_place _ c.args.index c.self.inside.freed c.self.inside.free (rw (← c.self.view_is) at c.requires) in
    omega arith

pub invariant_of-self : goal.invariant_of-self
invariant_of-self c =
    remove_sound _ c.args.index _ _ (rw (← c.self.view_is) at c.requires) c.self.invariant

pub returns : goal.returns
returns c =
    rw (← c.self.view_is) (remove_shown _ c.args.index _ _ (rw (← c.self.view_is) at c.requires) c.self.invariant)
