use Rattle.wasi_table.specs.Texts.{items_of}
use Rattle.wasi_table.proofs.PartLemmas.{mapped_parts}
use Rattle.wasi_table.proofs.cut.next_interface.Goals as goal

pub returns : goal.returns
returns c = mapped_parts items_of 46 c.args.rest c.next_part.result c.next_part.ensures
