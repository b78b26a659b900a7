use Rattle.std.proofs.Common.{◌≡◌, ℕ, ◌<◌, List, refl, sym, ap, ◌∙◌, arith}
use Rattle.tree_table.specs.Tables.{count_of}
use Rattle.tree_table.specs.Slots.{kind_of, node_from}
use Rattle.tree_table.proofs.RowLemmas.{Opens, opens, in-slots}
use Rattle.tree_table.proofs.table.kind.Goals as goal
use Rattle.tree_table.specs.declared.slot.NodeKind.{NodeKind}
use Rattle.tree_table.specs.declared.slot.NodeKind.TheVariants as kinds

kind_from : (kind : NodeKind) (bytes : List ℕ) → kind_of (node_from kind bytes) ≡ kind
kind_from kinds.Folder bytes = refl
kind_from kinds.File bytes = refl
kind_from kinds.Link bytes = refl

pub index-slot-requires : goal.index-slot-requires
index-slot-requires c =
    let v = c.table.inside in
    let within : c.args.node < count_of c.args.table.now = c.requires in
    let low = in-slots v.roots v.bytes.items v.slots.items c.args.node (rw (← c.table.view_is) at within) in
    omega arith

pub returns : goal.returns
returns c =
    let v = c.table.inside in
    let within : c.args.node < count_of c.args.table.now = c.requires in
    let o : Opens v.roots v.bytes.items v.slots.items c.args.node c.index-slot.result.now = opens v.roots v.bytes.items v.slots.items c.args.node c.index-slot.result.now c.table.invariant (rw (← c.table.view_is) at within) c.index-slot.ensures in
    rw (← c.table.view_is) (sym (ap kind_of o.reads.node ∙ kind_from c.index-slot.result.now.kind _))
