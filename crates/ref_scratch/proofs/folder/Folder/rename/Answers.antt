use Rattle.std.proofs.Common.{subst, sym}
use Rattle.ref_scratch.specs.Texts.{AreTexts}
use Rattle.ref_scratch.proofs.TextLemmas.{texts_renamed}
use Rattle.ref_scratch.proofs.folder.Folder.rename.Goals as goal

pub invariant_of-self : goal.invariant_of-self
invariant_of-self c = subst AreTexts (sym c.rename.ensures) (texts_renamed c.self.inside.scratch c.self.invariant c.args.number c.as_bytes.result.now c.as_bytes.ensures.utf8)
