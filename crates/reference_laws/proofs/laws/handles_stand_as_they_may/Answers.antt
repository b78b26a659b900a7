use Rattle.reference_laws.proofs.Standing.{stand_as_they_may}
use Rattle.reference_laws.proofs.laws.handles_stand_as_they_may.Goals as goal

pub returns : goal.returns
returns g c = stand_as_they_may _
