use Rattle.overlay_tree.proofs.ReplaceLemmas.{replaced_code}
use Rattle.overlay_tree.proofs.pieces.replace_bytes.Goals as goal

pub returns-clause-files : goal.returns-clause-files
returns-clause-files c b =
    replaced_code c.args.slots.now c.args.space.now c.write.new.self c.args.new.now c.args.number c.args.at b c.start_of-start.result c.requires.number c.requires.live c.requires.within c.requires.long c.start_of-start.ensures.value c.write.ensures
