use Rattle.std.proofs.Common.{◌≡◌, ◌≢◌, ℕ, ◌<◌, ◌≤◌, List, Some, sym, ap, subst, ◌∙◌, arith}
use Rattle.tree_table.specs.declared.entries.Node.TheVariants.{Folder, File, Link}
use Rattle.tree_table.specs.Tables.{count_of, longest_of, target_parts}
use Rattle.tree_table.specs.Slots.{node_from, part}
use Rattle.tree_table.proofs.RowLemmas.{forest, Opens, opens, in-slots}
use Rattle.tree_table.proofs.table.target.Goals as goal

folder_no_link : (target : List ℕ) → Folder ≢ Link target
folder_no_link target e = cc

file_no_link : (content target : List ℕ) → File content ≢ Link target
file_no_link content target e = cc

pub index-slot-requires : goal.index-slot-requires
index-slot-requires c =
    let v = c.table.inside in
    let within : c.args.node < count_of c.args.table.now = c.requires in
    let low = in-slots v.roots v.bytes.items v.slots.items c.args.node (rw (← c.table.view_is) at within) in
    omega arith

pub within-requires-clause-ordered : goal.within-requires-clause-ordered
within-requires-clause-ordered c =
    let v = c.table.inside in
    let within : c.args.node < count_of c.args.table.now = c.requires in
    let o : Opens v.roots v.bytes.items v.slots.items c.args.node c.index-slot.result.now = opens v.roots v.bytes.items v.slots.items c.args.node c.index-slot.result.now c.table.invariant (rw (← c.table.view_is) at within) c.index-slot.ensures in
    o.within.content_ordered

pub within-requires-clause-inside : goal.within-requires-clause-inside
within-requires-clause-inside c =
    let v = c.table.inside in
    let within : c.args.node < count_of c.args.table.now = c.requires in
    let o : Opens v.roots v.bytes.items v.slots.items c.args.node c.index-slot.result.now = opens v.roots v.bytes.items v.slots.items c.args.node c.index-slot.result.now c.table.invariant (rw (← c.table.view_is) at within) c.index-slot.ensures in
    let h = o.within.content_inside in rw c.as_slice.ensures.value h

pub returns-in-Link-clause-link : goal.returns-in-Link-clause-link
returns-in-Link-clause-link c =
    let v = c.table.inside in
    let within : c.args.node < count_of c.args.table.now = c.requires in
    let o : Opens v.roots v.bytes.items v.slots.items c.args.node c.index-slot.result.now = opens v.roots v.bytes.items v.slots.items c.args.node c.index-slot.result.now c.table.invariant (rw (← c.table.view_is) at within) c.index-slot.ensures in
    let is : c.within.result.now ≡ part v.bytes.items c.index-slot.result.now.content = c.within.ensures ∙ ap (λ (b : List ℕ). part b c.index-slot.result.now.content) c.as_slice.ensures.value in
    rw (← c.table.view_is) (o.reads.node ∙ ap (λ kind. node_from kind (part v.bytes.items c.index-slot.result.now.content)) c.in-Link.is ∙ ap Link (sym is))

pub returns-in-Folder-clause-none : goal.returns-in-Folder-clause-none
returns-in-Folder-clause-none c =
    let v = c.table.inside in
    let within : c.args.node < count_of c.args.table.now = c.requires in
    let o : Opens v.roots v.bytes.items v.slots.items c.args.node c.index-slot.result.now = opens v.roots v.bytes.items v.slots.items c.args.node c.index-slot.result.now c.table.invariant (rw (← c.table.view_is) at within) c.index-slot.ensures in
    rw (← c.table.view_is) (λ target link. folder_no_link target (sym (ap (λ kind. node_from kind (part v.bytes.items c.index-slot.result.now.content)) c.in-Folder.is) ∙ sym o.reads.node ∙ link))

pub returns-in-File-clause-none : goal.returns-in-File-clause-none
returns-in-File-clause-none c =
    let v = c.table.inside in
    let within : c.args.node < count_of c.args.table.now = c.requires in
    let o : Opens v.roots v.bytes.items v.slots.items c.args.node c.index-slot.result.now = opens v.roots v.bytes.items v.slots.items c.args.node c.index-slot.result.now c.table.invariant (rw (← c.table.view_is) at within) c.index-slot.ensures in
    rw (← c.table.view_is) (λ target link. file_no_link _ target (sym (ap (λ kind. node_from kind (part v.bytes.items c.index-slot.result.now.content)) c.in-File.is) ∙ sym o.reads.node ∙ link))

pub returns-in-Link-clause-there : goal.returns-in-Link-clause-there
returns-in-Link-clause-there c =
    let v = c.table.inside in
    let within : c.args.node < count_of c.args.table.now = c.requires in
    let o : Opens v.roots v.bytes.items v.slots.items c.args.node c.index-slot.result.now = opens v.roots v.bytes.items v.slots.items c.args.node c.index-slot.result.now c.table.invariant (rw (← c.table.view_is) at within) c.index-slot.ensures in
    rw (← c.table.view_is) (o.reads.look ∙ ap Some (sym o.reads.node))

pub returns-in-Folder-clause-there : goal.returns-in-Folder-clause-there
returns-in-Folder-clause-there c =
    let v = c.table.inside in
    let within : c.args.node < count_of c.args.table.now = c.requires in
    let o : Opens v.roots v.bytes.items v.slots.items c.args.node c.index-slot.result.now = opens v.roots v.bytes.items v.slots.items c.args.node c.index-slot.result.now c.table.invariant (rw (← c.table.view_is) at within) c.index-slot.ensures in
    rw (← c.table.view_is) (o.reads.look ∙ ap Some (sym o.reads.node))

pub returns-in-File-clause-there : goal.returns-in-File-clause-there
returns-in-File-clause-there c =
    let v = c.table.inside in
    let within : c.args.node < count_of c.args.table.now = c.requires in
    let o : Opens v.roots v.bytes.items v.slots.items c.args.node c.index-slot.result.now = opens v.roots v.bytes.items v.slots.items c.args.node c.index-slot.result.now c.table.invariant (rw (← c.table.view_is) at within) c.index-slot.ensures in
    rw (← c.table.view_is) (o.reads.look ∙ ap Some (sym o.reads.node))

pub returns-in-Link-clause-parts : goal.returns-in-Link-clause-parts
returns-in-Link-clause-parts c =
    let v = c.table.inside in
    let within : c.args.node < count_of c.args.table.now = c.requires in
    let o : Opens v.roots v.bytes.items v.slots.items c.args.node c.index-slot.result.now = opens v.roots v.bytes.items v.slots.items c.args.node c.index-slot.result.now c.table.invariant (rw (← c.table.view_is) at within) c.index-slot.ensures in
    let is : c.within.result.now ≡ part v.bytes.items c.index-slot.result.now.content = c.within.ensures ∙ ap (λ (b : List ℕ). part b c.index-slot.result.now.content) c.as_slice.ensures.value in
    let row : node_from c.index-slot.result.now.kind (part v.bytes.items c.index-slot.result.now.content) ≡ Link c.within.result.now = ap (λ kind. node_from kind (part v.bytes.items c.index-slot.result.now.content)) c.in-Link.is ∙ ap Link (sym is) in
    rw (← c.table.view_is) (subst (λ node. target_parts node ≤ longest_of (forest v.roots v.bytes.items v.slots.items)) row o.reads.parts)
