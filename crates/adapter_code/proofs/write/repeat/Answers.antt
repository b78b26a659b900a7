use Rattle.adapter_code.proofs.Codes.{before_repeat}
use Rattle.adapter_code.proofs.write.repeat.Goals as goal

pub returns : goal.returns
returns c = λ rest. before_repeat c.args.name c.args.count c.args.body rest
