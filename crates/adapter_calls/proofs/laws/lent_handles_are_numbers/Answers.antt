use Rattle.adapter_calls.proofs.Arguments.{lent_are_numbers_law}
use Rattle.adapter_calls.proofs.laws.lent_handles_are_numbers.Goals as goal

pub returns : goal.returns
returns g c = lent_are_numbers_law g.H.Host.step
