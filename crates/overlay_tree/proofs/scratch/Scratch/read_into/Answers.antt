use Rattle.std.proofs.Common.{◌∙◌, ap, drop, ◌++◌, length}
use Rattle.tree_table.specs.Scratches.{content_at, read_at}
use Rattle.overlay_tree.specs.Pieces.{map_of}
use Rattle.overlay_tree.proofs.MapLemmas.{numbered_in}
use Rattle.overlay_tree.proofs.scratch.Scratch.read_into.Goals as goal

pub read_file-requires-clause-number : goal.read_file-requires-clause-number
read_file-requires-clause-number c = rw c.deref.ensures.value (numbered_in c.args.self.now c.self.inside.blocks c.self.inside.slots.items c.self.inside.space c.args.number c.self.view_is c.requires)

pub returns-clause-count : goal.returns-clause-count
returns-clause-count c =
    let b = c.self.inside.blocks in
    let n = c.args.number in
    let k = length c.args.out.now in
    c.read_file.ensures.count b ∙ ap (λ s. length (read_at (content_at (map_of b s c.self.inside.space) n) c.args.at k)) c.deref.ensures.value ∙ ap (λ m. length (read_at (content_at m n) c.args.at k)) c.self.view_is

pub returns-clause-read : goal.returns-clause-read
returns-clause-read c =
    let b = c.self.inside.blocks in
    let n = c.args.number in
    let k = length c.args.out.now in
    let rest = drop c.read_file.result c.args.out.now in
    c.read_file.ensures.read b ∙ ap (λ s. read_at (content_at (map_of b s c.self.inside.space) n) c.args.at k ++ rest) c.deref.ensures.value ∙ ap (λ m. read_at (content_at m n) c.args.at k ++ rest) c.self.view_is
