use Rattle.reference_laws.proofs.Closed.{stays_closed}
use Rattle.reference_laws.proofs.laws.nothing_reaches_the_host_where_nothing_is_allowed.Goals as goal

pub returns : goal.returns
returns g c = λ setup inner acts allows. stays_closed _ setup inner acts allows
