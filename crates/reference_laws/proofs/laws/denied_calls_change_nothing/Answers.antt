use Rattle.reference_laws.proofs.Reaching.{denied_change_nothing}
use Rattle.reference_laws.proofs.laws.denied_calls_change_nothing.Goals as goal

pub returns : goal.returns
returns g c = λ r call f is some. denied_change_nothing _ r call f is some
