use Rattle.std.proofs.Common.{◌<◌, Some, sym, ap, ◌∙◌, arith}
use Rattle.tree_table.specs.Tables.{count_of}
use Rattle.tree_table.specs.Paths.{is_file}
use Rattle.tree_table.specs.Slots.{node_from, part}
use Rattle.tree_table.proofs.RowLemmas.{Opens, opens, in-slots}
use Rattle.tree_table.proofs.table.TableNameRead.is_file.Goals as goal

pub index-slot-requires : goal.index-slot-requires
index-slot-requires c =
    let v = c.self.inside in
    let within : c.args.node < count_of c.args.self.now = c.requires in
    let low = in-slots v.roots v.bytes.items v.slots.items c.args.node (rw (← c.self.view_is) at within) in
    omega arith

pub returns-in-File-clause-value : goal.returns-in-File-clause-value
returns-in-File-clause-value c =
    let v = c.self.inside in
    let within : c.args.node < count_of c.args.self.now = c.requires in
    let o : Opens v.roots v.bytes.items v.slots.items c.args.node c.index-slot.result.now = opens v.roots v.bytes.items v.slots.items c.args.node c.index-slot.result.now c.self.invariant (rw (← c.self.view_is) at within) c.index-slot.ensures in
    rw (← c.self.view_is) (sym (ap is_file (o.reads.look ∙ ap (λ kind. Some (node_from kind (part v.bytes.items c.index-slot.result.now.content))) c.in-File.is)))

pub returns-in-File-clause-alone : goal.returns-in-File-clause-alone
returns-in-File-clause-alone c =
    let v = c.self.inside in
    let within : c.args.node < count_of c.args.self.now = c.requires in
    let o : Opens v.roots v.bytes.items v.slots.items c.args.node c.index-slot.result.now = opens v.roots v.bytes.items v.slots.items c.args.node c.index-slot.result.now c.self.invariant (rw (← c.self.view_is) at within) c.index-slot.ensures in
    rw (← c.self.view_is) o.reads.alone

pub returns-in-Folder-clause-value : goal.returns-in-Folder-clause-value
returns-in-Folder-clause-value c =
    let v = c.self.inside in
    let within : c.args.node < count_of c.args.self.now = c.requires in
    let o : Opens v.roots v.bytes.items v.slots.items c.args.node c.index-slot.result.now = opens v.roots v.bytes.items v.slots.items c.args.node c.index-slot.result.now c.self.invariant (rw (← c.self.view_is) at within) c.index-slot.ensures in
    rw (← c.self.view_is) (sym (ap is_file (o.reads.look ∙ ap (λ kind. Some (node_from kind (part v.bytes.items c.index-slot.result.now.content))) c.in-Folder.is)))

pub returns-in-Folder-clause-alone : goal.returns-in-Folder-clause-alone
returns-in-Folder-clause-alone c =
    let v = c.self.inside in
    let within : c.args.node < count_of c.args.self.now = c.requires in
    let o : Opens v.roots v.bytes.items v.slots.items c.args.node c.index-slot.result.now = opens v.roots v.bytes.items v.slots.items c.args.node c.index-slot.result.now c.self.invariant (rw (← c.self.view_is) at within) c.index-slot.ensures in
    rw (← c.self.view_is) o.reads.alone

pub returns-in-Link-clause-value : goal.returns-in-Link-clause-value
returns-in-Link-clause-value c =
    let v = c.self.inside in
    let within : c.args.node < count_of c.args.self.now = c.requires in
    let o : Opens v.roots v.bytes.items v.slots.items c.args.node c.index-slot.result.now = opens v.roots v.bytes.items v.slots.items c.args.node c.index-slot.result.now c.self.invariant (rw (← c.self.view_is) at within) c.index-slot.ensures in
    rw (← c.self.view_is) (sym (ap is_file (o.reads.look ∙ ap (λ kind. Some (node_from kind (part v.bytes.items c.index-slot.result.now.content))) c.in-Link.is)))

pub returns-in-Link-clause-alone : goal.returns-in-Link-clause-alone
returns-in-Link-clause-alone c =
    let v = c.self.inside in
    let within : c.args.node < count_of c.args.self.now = c.requires in
    let o : Opens v.roots v.bytes.items v.slots.items c.args.node c.index-slot.result.now = opens v.roots v.bytes.items v.slots.items c.args.node c.index-slot.result.now c.self.invariant (rw (← c.self.view_is) at within) c.index-slot.ensures in
    rw (← c.self.view_is) o.reads.alone
