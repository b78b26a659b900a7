use Rattle.std.proofs.Common.{◌≡◌, ℕ, ◌<◌, List, sym, ap, subst, ◌∙◌, arith, IsUtf8}
use Rattle.tree_table.specs.Tables.{count_of}
use Rattle.tree_table.specs.Slots.{part}
use Rattle.tree_table.proofs.RowLemmas.{Opens, opens, in-slots}
use Rattle.tree_table.proofs.table.name.Goals as goal

pub index-slot-requires : goal.index-slot-requires
index-slot-requires c =
    let v = c.table.inside in
    let within : c.args.node < count_of c.args.table.now = c.requires in
    let low = in-slots v.roots v.bytes.items v.slots.items c.args.node (rw (← c.table.view_is) at within) in
    omega arith

pub within-requires-clause-ordered : goal.within-requires-clause-ordered
within-requires-clause-ordered c =
    let v = c.table.inside in
    let within : c.args.node < count_of c.args.table.now = c.requires in
    let o : Opens v.roots v.bytes.items v.slots.items c.args.node c.index-slot.result.now = opens v.roots v.bytes.items v.slots.items c.args.node c.index-slot.result.now c.table.invariant (rw (← c.table.view_is) at within) c.index-slot.ensures in
    o.within.name_ordered

pub within-requires-clause-inside : goal.within-requires-clause-inside
within-requires-clause-inside c =
    let v = c.table.inside in
    let within : c.args.node < count_of c.args.table.now = c.requires in
    let o : Opens v.roots v.bytes.items v.slots.items c.args.node c.index-slot.result.now = opens v.roots v.bytes.items v.slots.items c.args.node c.index-slot.result.now c.table.invariant (rw (← c.table.view_is) at within) c.index-slot.ensures in
    let h = o.within.name_inside in rw c.as_slice.ensures.value h

pub returns-clause-value : goal.returns-clause-value
returns-clause-value c =
    let v = c.table.inside in
    let within : c.args.node < count_of c.args.table.now = c.requires in
    let o : Opens v.roots v.bytes.items v.slots.items c.args.node c.index-slot.result.now = opens v.roots v.bytes.items v.slots.items c.args.node c.index-slot.result.now c.table.invariant (rw (← c.table.view_is) at within) c.index-slot.ensures in
    rw (← c.table.view_is) (c.within.ensures ∙ ap (λ (b : List ℕ). part b c.index-slot.result.now.name) c.as_slice.ensures.value ∙ sym o.reads.last)

pub returns-clause-utf8 : goal.returns-clause-utf8
returns-clause-utf8 c =
    let v = c.table.inside in
    let within : c.args.node < count_of c.args.table.now = c.requires in
    let o : Opens v.roots v.bytes.items v.slots.items c.args.node c.index-slot.result.now = opens v.roots v.bytes.items v.slots.items c.args.node c.index-slot.result.now c.table.invariant (rw (← c.table.view_is) at within) c.index-slot.ensures in
    let is : c.within.result.now ≡ part v.bytes.items c.index-slot.result.now.name = c.within.ensures ∙ ap (λ (b : List ℕ). part b c.index-slot.result.now.name) c.as_slice.ensures.value in
    subst IsUtf8 (sym is) o.within.utf8
