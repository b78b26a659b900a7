use Rattle.wasi_table.specs.Texts.{words_of}
use Rattle.wasi_table.proofs.PartLemmas.{mapped_parts}
use Rattle.wasi_table.proofs.cut.next_line.Goals as goal

pub returns : goal.returns
returns c = mapped_parts words_of 44 c.args.rest c.next_part.result c.next_part.ensures
