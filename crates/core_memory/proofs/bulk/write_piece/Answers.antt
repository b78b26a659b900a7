use Rattle.std.proofs.Common.{ap}
use Rattle.core_memory.specs.Page.{Content}
use Rattle.core_memory.proofs.Sequence.{edited}
use Rattle.core_memory.proofs.bulk.write_piece.Goals as goal

pub returns : goal.returns
returns c = edited c.args.pages.now.items c.args.at c.index_mut.result.now c.write.new.self c.args.bytes.now c.requires.paged c.requires.place c.requires.within c.index_mut.ensures.value (ap (λ (v : Content). v.bytes) c.write.ensures) (ap (λ (v : Content). v.made) c.write.ensures)
