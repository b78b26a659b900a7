use Rattle.std.proofs.Common.{◌≤◌, ◌+◌, ◌∙◌, ap, None, get_or, [], arith}
use Rattle.tree_table.specs.Scratches.{with_content}
use Rattle.overlay_tree.specs.Pieces.{blocks_in, entry_blocks}
use Rattle.overlay_tree.proofs.MapLemmas.{live_in, numbered_in, kept_resized}
use Rattle.overlay_tree.proofs.scratch.Scratch.truncate.Goals as goal

pub resize_file-requires-clause-number : goal.resize_file-requires-clause-number
resize_file-requires-clause-number c = numbered_in c.args.self.now c.self.inside.blocks c.self.inside.slots.items c.self.inside.space c.args.number c.self.view_is c.requires

pub resize_file-requires-clause-live : goal.resize_file-requires-clause-live
resize_file-requires-clause-live c = live_in c.args.self.now c.self.inside.blocks c.self.inside.slots.items c.self.inside.space c.args.number c.self.view_is c.requires

pub resize_file-requires-clause-fits : goal.resize_file-requires-clause-fits
resize_file-requires-clause-fits c = omega (arith, c.self.invariant.quota, c.self.invariant.within)

pub invariant_of-self : goal.invariant_of-self
invariant_of-self c =
    let lt = numbered_in c.args.self.now c.self.inside.blocks c.self.inside.slots.items c.self.inside.space c.args.number c.self.view_is c.requires in
    let live = live_in c.args.self.now c.self.inside.blocks c.self.inside.slots.items c.self.inside.space c.args.number c.self.view_is c.requires in
    let room : blocks_in c.self.inside.slots.items + 0 ≤ c.self.inside.blocks + entry_blocks (get_or c.self.inside.slots.items c.args.number None) = omega (arith, c.self.invariant.within) in
    kept_resized c.self.inside.blocks c.self.inside.slots.items c.resize_file.new.slots.items c.self.inside.space c.resize_file.new.space c.args.number 0 c.self.invariant lt live room c.resize_file.ensures.slots c.resize_file.ensures.space

pub returns : goal.returns
returns c = c.resize_file.ensures.files c.self.inside.blocks ∙ ap (λ m. with_content m c.args.number []) c.self.view_is
