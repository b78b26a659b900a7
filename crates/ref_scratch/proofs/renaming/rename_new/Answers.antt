use Rattle.std.proofs.Common.{sym}
use Rattle.ref_scratch.proofs.NameLemmas.{new_short}
use Rattle.ref_scratch.proofs.renaming.rename_new.Goals as goal

pub rename-requires-clause-short : goal.rename-requires-clause-short
rename-requires-clause-short c = new_short c.args.folder.now c.in-Named.name.now c.args.text.now (sym c.in-Named.ensures)
