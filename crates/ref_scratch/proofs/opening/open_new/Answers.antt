use Rattle.std.proofs.Common.{sym}
use Rattle.ref_scratch.proofs.NameLemmas.{new_is}
use Rattle.ref_scratch.proofs.opening.open_new.Goals as goal

pub open_named-requires-clause-new : goal.open_named-requires-clause-new
open_named-requires-clause-new c = (new_is c.args.folder.now c.in-Named.name.now c.args.text.now (sym c.in-Named.ensures) c.requires).0

pub open_named-requires-clause-short : goal.open_named-requires-clause-short
open_named-requires-clause-short c = (new_is c.args.folder.now c.in-Named.name.now c.args.text.now (sym c.in-Named.ensures) c.requires).1
