use Rattle.std.proofs.Common.{◌≡◌, ◌≤◌, None, get_or, rules, arith}
use Rattle.std.proofs.lemmas.Grind.{common_steps}
use Rattle.overlay_tree.specs.Pieces.{entry_blocks}
use Rattle.overlay_tree.proofs.PieceLemmas.{blocks_one}
use Rattle.overlay_tree.proofs.pieces.has_room.Goals as goal

pub overflow_sub-others : goal.overflow_sub-others
overflow_sub-others c =
    let own : c.blocks-2.result ≡ entry_blocks (get_or c.args.slots.now c.args.number None) = search (rules, common_steps) in
    omega (arith, blocks_one c.args.slots.now c.args.number c.requires.number, own, c.blocks_in.ensures)
