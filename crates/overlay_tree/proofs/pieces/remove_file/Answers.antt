use Rattle.std.proofs.Common.{◌∙◌, ap, None, set}
use Rattle.overlay_tree.proofs.MapLemmas.{set_twice, cleared_map}
use Rattle.overlay_tree.proofs.pieces.remove_file.Goals as goal

pub returns-clause-slots : goal.returns-clause-slots
returns-clause-slots c =
    ap (set c.resize_file.new.slots.items c.args.number) c.clear.ensures ∙ ap (λ xs. set xs c.args.number None) c.resize_file.ensures.slots ∙ set_twice c.args.slots.now.items c.args.number _ None

pub returns-clause-files : goal.returns-clause-files
returns-clause-files c b =
    cleared_map b c.args.slots.now.items c.args.space.now c.resize_file.new.space c.args.number c.resize_file.new.slots.items (set c.resize_file.new.slots.items c.args.number c.clear.new.self) c.requires.number c.requires.live c.resize_file.ensures.slots (ap (set c.resize_file.new.slots.items c.args.number) c.clear.ensures) (c.resize_file.ensures.files b)
