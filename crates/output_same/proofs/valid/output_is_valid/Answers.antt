use Rattle.output_same.proofs.Outputs.{output_stands}
use Rattle.output_same.proofs.valid.output_is_valid.Goals as goal

pub returns : goal.returns
returns c = λ app h. (output_stands app h.valid h.imports).valid
