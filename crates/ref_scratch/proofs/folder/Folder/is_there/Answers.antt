use Rattle.std.proofs.Common.{◌∙◌, ap}
use Rattle.tree_table.specs.Scratches.{name_at}
use Rattle.ref_scratch.proofs.FindLemmas.{named_there}
use Rattle.ref_scratch.proofs.folder.Folder.is_there.Goals as goal

pub returns : goal.returns
returns c = c.is_some.ensures ∙ named_there c.args.self.now c.args.number c.name.result (c.name.ensures.value ∙ ap (λ m. name_at m c.args.number) c.self.view_is)
