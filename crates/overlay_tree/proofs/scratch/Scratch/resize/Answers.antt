use Rattle.std.proofs.Common.{◌∙◌, ap, arith}
use Rattle.tree_table.specs.Scratches.{content_at, has_room, with_content, resized}
use Rattle.overlay_tree.proofs.MapLemmas.{live_in, numbered_in, room_fits, kept_resized}
use Rattle.overlay_tree.proofs.scratch.Scratch.resize.Goals as goal

pub resize_file-requires-clause-number : goal.resize_file-requires-clause-number
resize_file-requires-clause-number c = numbered_in c.args.self.now c.self.inside.blocks c.self.inside.slots.items c.self.inside.space c.args.number c.self.view_is c.requires.live

pub resize_file-requires-clause-live : goal.resize_file-requires-clause-live
resize_file-requires-clause-live c = live_in c.args.self.now c.self.inside.blocks c.self.inside.slots.items c.self.inside.space c.args.number c.self.view_is c.requires.live

pub resize_file-requires-clause-fits : goal.resize_file-requires-clause-fits
resize_file-requires-clause-fits c =
    let lt = numbered_in c.args.self.now c.self.inside.blocks c.self.inside.slots.items c.self.inside.space c.args.number c.self.view_is c.requires.live in
    let fits = ap (λ m. has_room m c.args.number c.args.len) c.self.view_is ∙ c.requires.fits in
    let room = room_fits c.self.inside.blocks c.self.inside.slots.items c.self.inside.space c.args.number c.args.len c.self.invariant lt fits in
    omega (arith, room, c.self.invariant.quota)

pub invariant_of-self : goal.invariant_of-self
invariant_of-self c =
    let lt = numbered_in c.args.self.now c.self.inside.blocks c.self.inside.slots.items c.self.inside.space c.args.number c.self.view_is c.requires.live in
    let live = live_in c.args.self.now c.self.inside.blocks c.self.inside.slots.items c.self.inside.space c.args.number c.self.view_is c.requires.live in
    let fits = ap (λ m. has_room m c.args.number c.args.len) c.self.view_is ∙ c.requires.fits in
    let room = room_fits c.self.inside.blocks c.self.inside.slots.items c.self.inside.space c.args.number c.args.len c.self.invariant lt fits in
    kept_resized c.self.inside.blocks c.self.inside.slots.items c.resize_file.new.slots.items c.self.inside.space c.resize_file.new.space c.args.number c.args.len c.self.invariant lt live room c.resize_file.ensures.slots c.resize_file.ensures.space

pub returns : goal.returns
returns c = c.resize_file.ensures.files c.self.inside.blocks ∙ ap (λ m. with_content m c.args.number (resized (content_at m c.args.number) c.args.len)) c.self.view_is
