use Rattle.core_memory.proofs.Sequence.{filled}
use Rattle.core_memory.proofs.bulk.fill_piece.Goals as goal

pub returns : goal.returns
returns c = filled c.args.pages.now.items c.args.at c.args.len c.args.value c.index_mut.result.now c.fill.new.self c.requires.paged c.requires.place c.requires.within c.index_mut.ensures.value c.fill.ensures
