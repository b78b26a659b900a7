use Rattle.adapter_calls.proofs.Lifting.{lifts_as_taken}
use Rattle.adapter_calls.proofs.laws.answers_are_lifted_as_taken.Goals as goal

pub returns : goal.returns
returns c = lifts_as_taken
