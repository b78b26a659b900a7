use Rattle.output_same.proofs.Same.{outputs_same}
use Rattle.output_same.proofs.laws.outputs_do_the_same.Goals as goal

pub returns : goal.returns
returns c = outputs_same
