use Rattle.comp_worlds.specs.Hosts.{hosted}
use Rattle.comp_worlds.specs.Observed.{stack}
use Rattle.comp_worlds.proofs.Fair.{host_fair, stack_fair}
use Rattle.comp_frames.proofs.Pausing.{pauses_lead}
use Rattle.comp_frames.proofs.Resting.{machines_rest}
use Rattle.comp_frames.proofs.runs.pauses_lead_core_code.Goals as goal

pub returns-clause-leads : goal.returns-clause-leads
returns-clause-leads g c = λ G below. pauses_lead G (stack below (hosted g.H.Host.step)) (stack_fair below (hosted g.H.Host.step) (host_fair g.H.Host.step))

pub returns-clause-rests : goal.returns-clause-rests
returns-clause-rests g c = machines_rest
