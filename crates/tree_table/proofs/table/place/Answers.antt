use Rattle.std.proofs.Common.{◌<◌, sym, arith}
use Rattle.tree_table.specs.Tables.{count_of}
use Rattle.tree_table.proofs.RowLemmas.{Opens, opens, in-slots}
use Rattle.tree_table.proofs.table.place.Goals as goal

pub index-slot-requires : goal.index-slot-requires
index-slot-requires c =
    let v = c.table.inside in
    let within : c.args.node < count_of c.args.table.now = c.requires in
    let low = in-slots v.roots v.bytes.items v.slots.items c.args.node (rw (← c.table.view_is) at within) in
    omega arith

pub returns-clause-tree : goal.returns-clause-tree
returns-clause-tree c =
    let v = c.table.inside in
    let within : c.args.node < count_of c.args.table.now = c.requires in
    let o : Opens v.roots v.bytes.items v.slots.items c.args.node c.index-slot.result.now = opens v.roots v.bytes.items v.slots.items c.args.node c.index-slot.result.now c.table.invariant (rw (← c.table.view_is) at within) c.index-slot.ensures in
    rw (← c.table.view_is) (sym o.reads.tree)

pub returns-clause-place : goal.returns-clause-place
returns-clause-place c =
    let v = c.table.inside in
    let within : c.args.node < count_of c.args.table.now = c.requires in
    let o : Opens v.roots v.bytes.items v.slots.items c.args.node c.index-slot.result.now = opens v.roots v.bytes.items v.slots.items c.args.node c.index-slot.result.now c.table.invariant (rw (← c.table.view_is) at within) c.index-slot.ensures in
    rw (← c.table.view_is) (sym o.reads.place)
