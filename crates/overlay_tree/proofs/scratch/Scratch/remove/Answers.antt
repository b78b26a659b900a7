use Rattle.std.proofs.Common.{◌≤◌, ◌∙◌, ap, None, length, arith}
use Rattle.std.proofs.lemmas.List.{length-set}
use Rattle.tree_table.specs.Scratches.{removed}
use Rattle.overlay_tree.specs.Pieces.{blocks_in}
use Rattle.overlay_tree.proofs.MapLemmas.{live_in, numbered_in, kept_other, blocks_gone}
use Rattle.overlay_tree.proofs.scratch.Scratch.remove.Goals as goal

pub remove_file-requires-clause-number : goal.remove_file-requires-clause-number
remove_file-requires-clause-number c = numbered_in c.args.self.now c.self.inside.blocks c.self.inside.slots.items c.self.inside.space c.args.number c.self.view_is c.requires

pub remove_file-requires-clause-live : goal.remove_file-requires-clause-live
remove_file-requires-clause-live c = live_in c.args.self.now c.self.inside.blocks c.self.inside.slots.items c.self.inside.space c.args.number c.self.view_is c.requires

pub invariant_of-self : goal.invariant_of-self
invariant_of-self c =
    let lt = numbered_in c.args.self.now c.self.inside.blocks c.self.inside.slots.items c.self.inside.space c.args.number c.self.view_is c.requires in
    let less : blocks_in c.remove_file.new.slots.items ≤ blocks_in c.self.inside.slots.items = omega (arith, ap blocks_in c.remove_file.ensures.slots, blocks_gone c.self.inside.slots.items c.args.number lt) in
    let count = ap length c.remove_file.ensures.slots ∙ length-set c.self.inside.slots.items c.args.number None in
    kept_other c.self.inside.blocks c.self.inside.slots.items c.remove_file.new.slots.items c.self.inside.space c.remove_file.new.space c.self.invariant less count c.remove_file.ensures.space

pub returns : goal.returns
returns c = c.remove_file.ensures.files c.self.inside.blocks ∙ ap (λ m. removed m c.args.number) c.self.view_is
