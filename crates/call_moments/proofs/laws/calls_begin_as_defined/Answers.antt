use Rattle.call_moments.proofs.Begins.{begun}
use Rattle.call_moments.proofs.laws.calls_begin_as_defined.Goals as goal

pub returns : goal.returns
returns g c w old calls new result h = begun w old calls new result h
