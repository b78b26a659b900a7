use Rattle.reference_laws.proofs.Reaching.{own_or_let_through}
use Rattle.reference_laws.proofs.laws.calls_are_answered_alone_or_let_through.Goals as goal

pub returns : goal.returns
returns g c = λ r call. own_or_let_through _ r call
