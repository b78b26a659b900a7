use Rattle.wasi_table.specs.Texts.{lines_of}
use Rattle.wasi_table.proofs.PartLemmas.{mapped_parts}
use Rattle.wasi_table.proofs.cut.next_item.Goals as goal

pub returns : goal.returns
returns c = mapped_parts lines_of 59 c.args.rest c.next_part.result c.next_part.ensures
