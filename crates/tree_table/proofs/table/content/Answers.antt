use Rattle.std.proofs.Common.{◌≡◌, ◌≢◌, ℕ, ◌<◌, List, refl, sym, ap, ◌∙◌, arith}
use Rattle.tree_table.specs.declared.entries.Node.TheVariants.{Folder}
use Rattle.tree_table.specs.Tables.{count_of, node_of, content_of}
use Rattle.tree_table.specs.Slots.{node_from, part}
use Rattle.tree_table.proofs.RowLemmas.{Opens, opens, in-slots}
use Rattle.tree_table.specs.declared.slot.NodeKind.{NodeKind}
use Rattle.tree_table.specs.declared.slot.NodeKind.TheVariants as kinds
use Rattle.tree_table.proofs.table.content.Goals as goal

content_from : (kind : NodeKind) (bytes : List ℕ) → node_from kind bytes ≢ Folder → bytes ≡ content_of (node_from kind bytes)
content_from kinds.Folder bytes other = absurd (other refl)
content_from kinds.File bytes other = refl
content_from kinds.Link bytes other = refl

pub index-slot-requires : goal.index-slot-requires
index-slot-requires c =
    let v = c.table.inside in
    let within : c.args.node < count_of c.args.table.now = c.requires.inside in
    let low = in-slots v.roots v.bytes.items v.slots.items c.args.node (rw (← c.table.view_is) at within) in
    omega arith

pub within-requires-clause-ordered : goal.within-requires-clause-ordered
within-requires-clause-ordered c =
    let v = c.table.inside in
    let within : c.args.node < count_of c.args.table.now = c.requires.inside in
    let o : Opens v.roots v.bytes.items v.slots.items c.args.node c.index-slot.result.now = opens v.roots v.bytes.items v.slots.items c.args.node c.index-slot.result.now c.table.invariant (rw (← c.table.view_is) at within) c.index-slot.ensures in
    o.within.content_ordered

pub within-requires-clause-inside : goal.within-requires-clause-inside
within-requires-clause-inside c =
    let v = c.table.inside in
    let within : c.args.node < count_of c.args.table.now = c.requires.inside in
    let o : Opens v.roots v.bytes.items v.slots.items c.args.node c.index-slot.result.now = opens v.roots v.bytes.items v.slots.items c.args.node c.index-slot.result.now c.table.invariant (rw (← c.table.view_is) at within) c.index-slot.ensures in
    let h = o.within.content_inside in rw c.as_slice.ensures.value h

pub returns : goal.returns
returns c =
    let v = c.table.inside in
    let within : c.args.node < count_of c.args.table.now = c.requires.inside in
    let o : Opens v.roots v.bytes.items v.slots.items c.args.node c.index-slot.result.now = opens v.roots v.bytes.items v.slots.items c.args.node c.index-slot.result.now c.table.invariant (rw (← c.table.view_is) at within) c.index-slot.ensures in
    let is : c.within.result.now ≡ part v.bytes.items c.index-slot.result.now.content = c.within.ensures ∙ ap (λ (b : List ℕ). part b c.index-slot.result.now.content) c.as_slice.ensures.value in
    let row = node_from c.index-slot.result.now.kind (part v.bytes.items c.index-slot.result.now.content) in
    let other : node_of c.args.table.now c.args.node ≢ Folder = c.requires.content in
    let there : row ≢ Folder = λ folder. (rw (← c.table.view_is) at other) (o.reads.node ∙ folder) in
    rw (← c.table.view_is) (is ∙ content_from c.index-slot.result.now.kind _ there ∙ ap content_of (sym o.reads.node))
