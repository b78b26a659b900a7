use Rattle.std.proofs.Common.{◌<◌, arith}
use Rattle.tree_table.specs.Tables.{count_of}
use Rattle.tree_table.proofs.RowLemmas.{Opens, opens, in-slots}
use Rattle.tree_table.proofs.table.TableNameRead.children.Goals as goal

pub index-slot-requires : goal.index-slot-requires
index-slot-requires c =
    let v = c.self.inside in
    let within : c.args.node < count_of c.args.self.now = c.requires in
    let low = in-slots v.roots v.bytes.items v.slots.items c.args.node (rw (← c.self.view_is) at within) in
    omega arith

pub returns : goal.returns
returns c =
    let v = c.self.inside in
    let within : c.args.node < count_of c.args.self.now = c.requires in
    let o : Opens v.roots v.bytes.items v.slots.items c.args.node c.index-slot.result.now = opens v.roots v.bytes.items v.slots.items c.args.node c.index-slot.result.now c.self.invariant (rw (← c.self.view_is) at within) c.index-slot.ensures in
    rw (← c.self.view_is) o.reads.children
