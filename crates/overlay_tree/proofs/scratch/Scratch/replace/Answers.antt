use Rattle.std.proofs.Common.{◌≡◌, ◌+◌, ◌∙◌, ap, subst, length, arith}
use Rattle.std.specs.List.{splice}
use Rattle.tree_table.specs.Scratches.{content_at, with_content}
use Rattle.overlay_tree.specs.Pieces.{map_of}
use Rattle.overlay_tree.proofs.MapLemmas.{live_in, numbered_in, size_in}
use Rattle.overlay_tree.proofs.scratch.Scratch.replace.Goals as goal

pub replace_bytes-requires-clause-number : goal.replace_bytes-requires-clause-number
replace_bytes-requires-clause-number c = rw c.deref.ensures.value (numbered_in c.args.self.now c.self.inside.blocks c.self.inside.slots.items c.self.inside.space c.args.number c.self.view_is c.requires.live)

pub replace_bytes-requires-clause-live : goal.replace_bytes-requires-clause-live
replace_bytes-requires-clause-live c = rw c.deref.ensures.value (live_in c.args.self.now c.self.inside.blocks c.self.inside.slots.items c.self.inside.space c.args.number c.self.view_is c.requires.live)

pub replace_bytes-requires-clause-long : goal.replace_bytes-requires-clause-long
replace_bytes-requires-clause-long c =
    let lt = numbered_in c.args.self.now c.self.inside.blocks c.self.inside.slots.items c.self.inside.space c.args.number c.self.view_is c.requires.live in
    let size = size_in c.self.inside.blocks c.self.inside.slots.items c.self.inside.space c.args.number c.self.invariant lt ∙ ap (λ m. length (content_at m c.args.number)) c.self.view_is in
    rw c.deref.ensures.value (omega (arith, size, c.requires.long))

pub returns : goal.returns
returns c =
    let b = c.self.inside.blocks in
    let n = c.args.number in
    let old = c.self.inside.space in
    let new = c.replace_bytes.new.space in
    let files = subst (λ s. map_of b s new ≡ with_content (map_of b s old) n (splice (content_at (map_of b s old) n) c.args.at (c.args.at + length c.args.bytes.now) c.args.bytes.now)) c.deref.ensures.value (c.replace_bytes.ensures.files b) in
    files ∙ ap (λ m. with_content m n (splice (content_at m n) c.args.at (c.args.at + length c.args.bytes.now) c.args.bytes.now)) c.self.view_is
