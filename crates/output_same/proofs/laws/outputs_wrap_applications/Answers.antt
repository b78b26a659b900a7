use Rattle.output_same.proofs.Wrapping.{output_wraps}
use Rattle.output_same.proofs.laws.outputs_wrap_applications.Goals as goal

pub returns : goal.returns
returns c = output_wraps
