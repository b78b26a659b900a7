use Rattle.wasi_table.proofs.PartLemmas.{found_parts}
use Rattle.wasi_table.proofs.cut.cut.Goals as goal

pub returns : goal.returns
returns c = found_parts c.args.joiner c.args.text.now c.split_once.result (c.split_once.ensures.byte c.requires (λ w o f. f))
