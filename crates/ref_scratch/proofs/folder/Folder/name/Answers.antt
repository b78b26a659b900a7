use Rattle.std.proofs.Common.{◌≡◌, Some}
use Rattle.tree_table.specs.Scratches.{name_at}
use Rattle.ref_scratch.proofs.TextLemmas.{named_text}
use Rattle.ref_scratch.proofs.folder.Folder.name.Goals as goal

pub text_of-requires : goal.text_of-requires
text_of-requires c =
    let is : Some c.in-Some.name.now ≡ name_at c.self.inside.scratch c.args.number = rw c.in-Some.is at c.name.ensures.value in
    named_text c.self.inside.scratch c.self.invariant c.args.number c.in-Some.name.now is
