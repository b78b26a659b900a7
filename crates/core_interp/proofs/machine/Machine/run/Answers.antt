use Rattle.core_interp.proofs.Saying.{pauses_so}
use Rattle.core_interp.proofs.machine.Machine.run.Goals as goal

pub returns : goal.returns
returns c = pauses_so _ _ _ _ _ _ c.in_ok-pause.pause c.in_ok-pause.ensures.budget c.in_ok-pause.ensures.entry c.in_ok-pause.ensures.scene c.in_ok-pause.ensures.traps c.in_ok-pause.ensures.leads
