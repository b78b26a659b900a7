use Rattle.std.proofs.Common.{◌≡◌, ℕ, ◌<◌, ◌≤◌, List, length, sym, ap, subst, ◌∙◌, arith, nat_cmp}
use Rattle.std.specs.Cmp.Lexicographic.{slice_cmp}
use Rattle.tree_table.specs.Tables.{count_of}
use Rattle.tree_table.specs.Slots.{part}
use Rattle.tree_table.proofs.RowLemmas.{Opens, opens, in-slots}
use Rattle.tree_table.proofs.table.TableNameRead.compare.Goals as goal

pub index-slot-requires : goal.index-slot-requires
index-slot-requires g c =
    let v = c.self.inside in
    let within : c.args.node < count_of c.args.self.now = c.requires in
    let low = in-slots v.roots v.bytes.items v.slots.items c.args.node (rw (← c.self.view_is) at within) in
    omega arith

pub within-requires-clause-ordered : goal.within-requires-clause-ordered
within-requires-clause-ordered g c =
    let v = c.self.inside in
    let within : c.args.node < count_of c.args.self.now = c.requires in
    let o : Opens v.roots v.bytes.items v.slots.items c.args.node c.index-slot.result.now = opens v.roots v.bytes.items v.slots.items c.args.node c.index-slot.result.now c.self.invariant (rw (← c.self.view_is) at within) c.index-slot.ensures in
    o.within.name_ordered

pub within-requires-clause-inside : goal.within-requires-clause-inside
within-requires-clause-inside g c =
    let v = c.self.inside in
    let within : c.args.node < count_of c.args.self.now = c.requires in
    let o : Opens v.roots v.bytes.items v.slots.items c.args.node c.index-slot.result.now = opens v.roots v.bytes.items v.slots.items c.args.node c.index-slot.result.now c.self.invariant (rw (← c.self.view_is) at within) c.index-slot.ensures in
    let h = o.within.name_inside in rw c.as_slice.ensures.value h

pub returns-clause-order : goal.returns-clause-order
returns-clause-order g c =
    let v = c.self.inside in
    let within : c.args.node < count_of c.args.self.now = c.requires in
    let o : Opens v.roots v.bytes.items v.slots.items c.args.node c.index-slot.result.now = opens v.roots v.bytes.items v.slots.items c.args.node c.index-slot.result.now c.self.invariant (rw (← c.self.view_is) at within) c.index-slot.ensures in
    let is : c.within.result.now ≡ part v.bytes.items c.index-slot.result.now.name = c.within.ensures ∙ ap (λ (b : List ℕ). part b c.index-slot.result.now.name) c.as_slice.ensures.value in
    let order = ap (λ (n : List ℕ). slice_cmp nat_cmp n c.args.part.now) (is ∙ sym o.reads.name) in
    rw (← c.self.view_is) (c.cmp.ensures ∙ order)

pub returns-clause-short : goal.returns-clause-short
returns-clause-short g c =
    let v = c.self.inside in
    let within : c.args.node < count_of c.args.self.now = c.requires in
    let o : Opens v.roots v.bytes.items v.slots.items c.args.node c.index-slot.result.now = opens v.roots v.bytes.items v.slots.items c.args.node c.index-slot.result.now c.self.invariant (rw (← c.self.view_is) at within) c.index-slot.ensures in
    rw (← c.self.view_is) (subst (λ (n : List ℕ). length n ≤ 255) (sym o.reads.name) o.reads.short)
