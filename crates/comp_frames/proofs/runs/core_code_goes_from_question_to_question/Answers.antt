use Rattle.comp_worlds.specs.Hosts.{hosted}
use Rattle.comp_worlds.specs.Observed.{stack}
use Rattle.comp_worlds.proofs.Fair.{host_fair, stack_fair}
use Rattle.comp_frames.proofs.Unfolding.{unfolds}
use Rattle.comp_frames.proofs.Going.{goes_by_its_rest}
use Rattle.comp_frames.proofs.runs.core_code_goes_from_question_to_question.Goals as goal

pub returns-clause-unfolds : goal.returns-clause-unfolds
returns-clause-unfolds g c = λ G below. unfolds G (stack below (hosted g.H.Host.step)) (stack_fair below (hosted g.H.Host.step) (host_fair g.H.Host.step))

pub returns-clause-rests : goal.returns-clause-rests
returns-clause-rests g c = λ G below. goes_by_its_rest G (stack below (hosted g.H.Host.step)) (stack_fair below (hosted g.H.Host.step) (host_fair g.H.Host.step))
