use Rattle.std.proofs.Common.{◌≡◌, ◌≢◌, List, sym, ap, subst, ◌∙◌}
use Rattle.tree_table.specs.declared.entries.Entry.{Entry}
use Rattle.tree_table.specs.declared.entries.Node.{Node}
use Rattle.tree_table.specs.declared.entries.Node.TheVariants.{Folder}
use Rattle.tree_table.specs.declared.slot.NodeKind.TheVariants as kinds
use Rattle.tree_table.specs.Slots.{kind_of}
use Rattle.tree_table.specs.Stored.{node_at}
use Rattle.mount_tree.specs.Growing.{IsAt, IsGrown, IsIndex, child_in}
use Rattle.mount_tree.proofs.GrowLemmas.{no-child, other-child, nowhere}
use Rattle.mount_tree.proofs.paths.Paths.folder_in.Goals as goal

file-other : (n : Node) → kind_of n ≡ kinds.File → n ≢ Folder
file-other n is folder = let same : kinds.Folder ≡ kinds.File = sym (ap kind_of folder) ∙ is in cc

link-other : (n : Node) → kind_of n ≡ kinds.Link → n ≢ Folder
link-other n is folder = let same : kinds.Folder ≡ kinds.Link = sym (ap kind_of folder) ∙ is in cc

pub returns-in-None : goal.returns-in-None
returns-in-None c = λ above at.
    let there = c.args.self.now in
    let grown : IsGrown there = subst IsGrown c.self.view_is c.self.invariant.grown in
    nowhere there grown above c.args.name.now (subst (IsAt there above) c.in-None.is at)

pub returns-in-None-child_in : goal.returns-in-None-child_in
returns-in-None-child_in c = λ above at.
    let there = c.args.self.now in
    let maps = c.self.inside.inside.items in
    let h : IsIndex there maps = subst (λ (es : List Entry). IsIndex es maps) c.self.view_is c.self.invariant in
    no-child there maps h c.in-Some.folder c.args.name.now above (subst (IsAt there above) c.in-Some.is at)
    (ap (λ ms. child_in ms c.in-Some.folder c.args.name.now) (sym c.as_slice.ensures.value) ∙ sym c.child_in.ensures ∙ c.in-None-child_in.is)

pub returns-in-File : goal.returns-in-File
returns-in-File c = λ above at.
    let there = c.args.self.now in
    let maps = c.self.inside.inside.items in
    let h : IsIndex there maps = subst (λ (es : List Entry). IsIndex es maps) c.self.view_is c.self.invariant in
    let k = c.in-Some-child_in.number in
    other-child there maps h c.in-Some.folder c.args.name.now above (subst (IsAt there above) c.in-Some.is at) k
    (ap (λ ms. child_in ms c.in-Some.folder c.args.name.now) (sym c.as_slice.ensures.value) ∙ sym c.child_in.ensures ∙ c.in-Some-child_in.is)
    (file-other (node_at there k) (ap (λ (es : List Entry). kind_of (node_at es k)) (sym c.self.view_is) ∙ sym c.kind.ensures ∙ c.in-File.is))

pub returns-in-Link : goal.returns-in-Link
returns-in-Link c = λ above at.
    let there = c.args.self.now in
    let maps = c.self.inside.inside.items in
    let h : IsIndex there maps = subst (λ (es : List Entry). IsIndex es maps) c.self.view_is c.self.invariant in
    let k = c.in-Some-child_in.number in
    other-child there maps h c.in-Some.folder c.args.name.now above (subst (IsAt there above) c.in-Some.is at) k
    (ap (λ ms. child_in ms c.in-Some.folder c.args.name.now) (sym c.as_slice.ensures.value) ∙ sym c.child_in.ensures ∙ c.in-Some-child_in.is)
    (link-other (node_at there k) (ap (λ (es : List Entry). kind_of (node_at es k)) (sym c.self.view_is) ∙ sym c.kind.ensures ∙ c.in-Link.is))
