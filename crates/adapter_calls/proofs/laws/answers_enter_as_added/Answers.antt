use Rattle.adapter_calls.proofs.Entering.{enters_as_added_law}
use Rattle.adapter_calls.proofs.laws.answers_enter_as_added.Goals as goal

pub returns : goal.returns
returns c = enters_as_added_law
