use Rattle.reference_host.proofs.StepLaw.{typed, typed_where_asked}
use Rattle.reference_host.proofs.typed.answers_are_typed.Goals as goal

pub returns-clause-asked : goal.returns-clause-asked
returns-clause-asked g c = typed_where_asked g.H.Host.step

pub returns-clause-all : goal.returns-clause-all
returns-clause-all g c = typed g.H.Host.step
