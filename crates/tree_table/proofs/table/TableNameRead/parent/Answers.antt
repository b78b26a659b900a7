use Rattle.std.proofs.Common.{◌≡◌, ◌≢◌, ℕ, ◌<◌, List, [], ◌∷◌, refl, arith}
use Rattle.tree_table.specs.Tables.{count_of, path_of}
use Rattle.tree_table.proofs.RowLemmas.{forest, Opens, opens, in-slots}
use Rattle.tree_table.proofs.table.TableNameRead.parent.Goals as goal

cut : (path : List (List ℕ)) → path ≢ [] → (name : List ℕ) × ((above : List (List ℕ)) × (path ≡ name ∷ above))
cut [] some = absurd (some refl)
cut (name ∷ above) some = (name, (above, refl))

pub index-slot-requires : goal.index-slot-requires
index-slot-requires c =
    let v = c.self.inside in
    let within : c.args.node < count_of c.args.self.now = c.requires.inside in
    let low = in-slots v.roots v.bytes.items v.slots.items c.args.node (rw (← c.self.view_is) at within) in
    omega arith

pub returns-clause-inside : goal.returns-clause-inside
returns-clause-inside c =
    let v = c.self.inside in
    let within : c.args.node < count_of c.args.self.now = c.requires.inside in
    let o : Opens v.roots v.bytes.items v.slots.items c.args.node c.index-slot.result.now = opens v.roots v.bytes.items v.slots.items c.args.node c.index-slot.result.now c.self.invariant (rw (← c.self.view_is) at within) c.index-slot.ensures in
    let some : path_of c.args.self.now c.args.node ≢ [] = c.requires.below in
    let there = cut (path_of (forest v.roots v.bytes.items v.slots.items) c.args.node) (rw (← c.self.view_is) at some) in
    let up = o.reads.folder there.0 there.1.0 there.1.1 in
    rw (← c.self.view_is) up.0

pub returns-clause-same_tree : goal.returns-clause-same_tree
returns-clause-same_tree c =
    let v = c.self.inside in
    let within : c.args.node < count_of c.args.self.now = c.requires.inside in
    let o : Opens v.roots v.bytes.items v.slots.items c.args.node c.index-slot.result.now = opens v.roots v.bytes.items v.slots.items c.args.node c.index-slot.result.now c.self.invariant (rw (← c.self.view_is) at within) c.index-slot.ensures in
    let some : path_of c.args.self.now c.args.node ≢ [] = c.requires.below in
    let there = cut (path_of (forest v.roots v.bytes.items v.slots.items) c.args.node) (rw (← c.self.view_is) at some) in
    let up = o.reads.folder there.0 there.1.0 there.1.1 in
    rw (← c.self.view_is) up.1

pub returns-clause-parent : goal.returns-clause-parent
returns-clause-parent c =
    let v = c.self.inside in
    let within : c.args.node < count_of c.args.self.now = c.requires.inside in
    let o : Opens v.roots v.bytes.items v.slots.items c.args.node c.index-slot.result.now = opens v.roots v.bytes.items v.slots.items c.args.node c.index-slot.result.now c.self.invariant (rw (← c.self.view_is) at within) c.index-slot.ensures in
    rw (← c.self.view_is) (λ name above is. (o.reads.folder name above is).2)
