use Rattle.std.proofs.Common.{arith}
use Rattle.wasi_match.proofs.CutLaws.{found_parts}
use Rattle.wasi_match.proofs.versions.cut.Goals as goal

pub returns : goal.returns
returns c = found_parts c.args.name.now c.split_once.result (c.split_once.ensures.byte (omega arith) (λ w o f. f))
