use Rattle.comp_frames.proofs.Steps.{calls_go_back, calls_from_outside, storing_goes_on, leaves_calls}
use Rattle.comp_frames.proofs.Lowering.{lowers_by_plans}
use Rattle.comp_frames.proofs.laws.calls_go_step_by_step.Goals as goal

pub returns-clause-inside : goal.returns-clause-inside
returns-clause-inside g c = λ G d. calls_go_back G g.H.Host.step d

pub returns-clause-outside : goal.returns-clause-outside
returns-clause-outside g c = λ G d. calls_from_outside G g.H.Host.step d

pub returns-clause-storing : goal.returns-clause-storing
returns-clause-storing g c = λ G d. storing_goes_on G g.H.Host.step d

pub returns-clause-lowering : goal.returns-clause-lowering
returns-clause-lowering g c = λ G d. lowers_by_plans G g.H.Host.step d

pub returns-clause-leaving : goal.returns-clause-leaving
returns-clause-leaving g c = λ G d. leaves_calls G g.H.Host.step d
