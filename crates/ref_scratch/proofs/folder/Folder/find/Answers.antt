use Rattle.std.proofs.Common.{◌∙◌, ap}
use Rattle.tree_table.specs.Scratches.{find_file}
use Rattle.ref_scratch.proofs.FindLemmas.{found_inside, found_file_there}
use Rattle.ref_scratch.proofs.folder.Folder.find.Goals as goal

pub returns-clause-inside : goal.returns-clause-inside
returns-clause-inside c = found_inside c.args.self.now c.args.name.now c.find.result (c.find.ensures ∙ ap (find_file c.self.inside.scratch) c.as_bytes.ensures.value ∙ ap (λ m. find_file m c.args.name.now) c.self.view_is)

pub returns-clause-there : goal.returns-clause-there
returns-clause-there c = found_file_there c.args.self.now c.args.name.now c.find.result (c.find.ensures ∙ ap (find_file c.self.inside.scratch) c.as_bytes.ensures.value ∙ ap (λ m. find_file m c.args.name.now) c.self.view_is)
