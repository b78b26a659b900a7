use Rattle.handle_space.proofs.Cells.{put_sound, put_shown}
use Rattle.handle_space.proofs.table.HandleTable.put.Goals as goal

pub invariant_of-self : goal.invariant_of-self
invariant_of-self c =
    put_sound _ c.args.index _ _ c.args.cell (rw (← c.self.view_is) at c.requires.live) c.requires.handle c.self.invariant

pub returns : goal.returns
returns c =
    rw (← c.self.view_is) (put_shown _ c.args.index _ _ c.args.cell (rw (← c.self.view_is) at c.requires.live) c.requires.handle c.self.invariant)
