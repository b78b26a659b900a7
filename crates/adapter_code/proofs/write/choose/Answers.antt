use Rattle.adapter_code.proofs.Codes.{before_if}
use Rattle.adapter_code.proofs.write.choose.Goals as goal

pub returns : goal.returns
returns c = λ rest. before_if c.args.test c.args.yes c.args.no rest
