use Rattle.adapter_calls.proofs.Lending.{lifts_as_lent_law}
use Rattle.adapter_calls.proofs.laws.arguments_are_lifted_as_lent.Goals as goal

pub returns : goal.returns
returns c = lifts_as_lent_law
