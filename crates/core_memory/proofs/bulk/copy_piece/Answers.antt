use Rattle.core_memory.proofs.Sequence.{copied_within, copied_across}
use Rattle.core_memory.proofs.bulk.copy_piece.Goals as goal

pub returns-then-to-from : goal.returns-then-to-from
returns-then-to-from c =
    copied_within c.args.pages.now.items c.args.to c.args.from c.args.len c.index_mut.result.now c.copy.new.self c.requires.paged c.requires.to_within c.requires.to c.requires.from c.if-to-from.true c.index_mut.ensures.value c.copy.ensures

pub returns-else-to-from : goal.returns-else-to-from
returns-else-to-from c =
    copied_across c.args.pages.now.items c.args.to c.args.from c.args.len c.replace-source.new.dest c.replace-source.result c.index_mut-else-to-from-2.result.now c.copy_over.new.target
    c.requires.paged c.requires.to_within c.requires.from_within c.requires.to c.requires.from c.if-to-from.false (cc (c.replace-source.ensures.value, c.index_mut-else-to-from.ensures.value)) c.index_mut-else-to-from-2.ensures.value c.copy_over.ensures
