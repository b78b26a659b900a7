use Rattle.std.proofs.Common.{◌≡◌, ◌∙◌, ap, None, get_or, length, rules, arith}
use Rattle.std.proofs.lemmas.Grind.{common_steps}
use Rattle.tree_table.specs.Scratches.{content_at}
use Rattle.overlay_tree.specs.Pieces.{len_of}
use Rattle.overlay_tree.proofs.MapLemmas.{numbered_in, size_in}
use Rattle.overlay_tree.proofs.scratch.Scratch.size.Goals as goal

pub index-requires : goal.index-requires
index-requires c = let lt = numbered_in c.args.self.now c.self.inside.blocks c.self.inside.slots.items c.self.inside.space c.args.number c.self.view_is c.requires in grind (arith, common_steps, lt)

pub returns : goal.returns
returns c =
    let lt = numbered_in c.args.self.now c.self.inside.blocks c.self.inside.slots.items c.self.inside.space c.args.number c.self.view_is c.requires in
    let len : c.len.result ≡ len_of (get_or c.self.inside.slots.items c.args.number None) = search (rules, common_steps) in
    len ∙ size_in c.self.inside.blocks c.self.inside.slots.items c.self.inside.space c.args.number c.self.invariant lt ∙ ap (λ m. length (content_at m c.args.number)) c.self.view_is
