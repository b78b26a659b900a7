use Rattle.routine_rows.proofs.Making.{still_fine}
use Rattle.routine_rows.proofs.world.outside.Goals as goal

pub returns : goal.returns
returns c = still_fine _ _ _ _ c.requires c.in_ok-at.ensures.2
