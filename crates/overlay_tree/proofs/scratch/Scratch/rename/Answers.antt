use Rattle.std.proofs.Common.{◌∙◌, ap}
use Rattle.tree_table.specs.Scratches.{renamed}
use Rattle.overlay_tree.proofs.MapLemmas.{live_in, numbered_in}
use Rattle.overlay_tree.proofs.scratch.Scratch.rename.Goals as goal

pub rename_file-requires-clause-number : goal.rename_file-requires-clause-number
rename_file-requires-clause-number c = numbered_in c.args.self.now c.self.inside.blocks c.self.inside.slots.items c.self.inside.space c.args.number c.self.view_is c.requires.live

pub rename_file-requires-clause-live : goal.rename_file-requires-clause-live
rename_file-requires-clause-live c = live_in c.args.self.now c.self.inside.blocks c.self.inside.slots.items c.self.inside.space c.args.number c.self.view_is c.requires.live

pub returns : goal.returns
returns c = c.rename_file.ensures.files c.self.inside.blocks ∙ ap (λ m. renamed m c.args.number c.args.name.now) c.self.view_is
