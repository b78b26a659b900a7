use Rattle.std.proofs.Common.{◌≡◌, ◌+◌, ◌<◌, ℕ, List, ◌∷◌, [], ◌++◌, true, false, ◌&&◌, cond, nat_eq, Option, Some, None, length, refl, sym, ap, subst, ◌∙◌, true≢false}
use Rattle.std.specs.Str.{bytes_eq}
use Rattle.std.specs.Prelude.{is_some, IfSome}
use Rattle.tree_table.specs.declared.entries.Entry.{Entry}
use Rattle.tree_table.specs.declared.entries.Node.TheVariants.{Folder}
use Rattle.tree_table.specs.Stored.{entry_in, node_at}
use Rattle.mount_tree.specs.Growing.{IsAt, IsIndex, child_in}
use Rattle.mount_tree.proofs.GrowLemmas.{free-name, taken-name, node-added, node-kept, index-more}
use Rattle.mount_tree.proofs.paths.Paths.with_node.Goals as goal

there-some : (o : Option ℕ) → is_some o ≡ true → (k : ℕ) × (o ≡ Some k)
there-some None h = absurd (true≢false (sym h))
there-some (Some k) h = (k, refl)

there-none : (o : Option ℕ) → is_some o ≡ false → o ≡ None
there-none None h = refl
there-none (Some k) h = absurd (true≢false h)

pub returns-then-is_some : goal.returns-then-is_some
returns-then-is_some c = λ above at.
    let there = c.args.self in
    let maps = c.self.inside.inside.items in
    let name = c.args.name.now in
    let f = c.in-Some.folder in
    let h : IsIndex there maps = subst (λ (es : List Entry). IsIndex es maps) c.self.view_is c.self.invariant in
    let here : IsAt there above (Some f) = subst (IsAt there above) c.in-Some.is at in
    let found : child_in maps f name ≡ c.child_in.result = ap (λ ms. child_in ms f name) (sym c.as_slice.ensures.value) ∙ sym c.child_in.ensures in
    let k = there-some c.child_in.result (sym c.is_some.ensures ∙ c.if-is_some.true) in
    node-kept there above name c.args.node (taken-name there maps h f name above here k.0 (found ∙ k.1))

pub invariant_of-result : goal.invariant_of-result
invariant_of-result c =
    let nodes = c.self.inside.nodes in
    let maps = c.self.inside.inside.items in
    let name = c.args.name.now in
    let f = c.in-Some.folder in
    let asked = subst (λ (o : Option ℕ). IfSome o (λ k. (k < length c.args.self) × (node_at c.args.self k ≡ Folder))) c.in-Some.is c.requires in
    let found : child_in maps f name ≡ c.child_in.result = ap (λ ms. child_in ms f name) (sym c.as_slice.ensures.value) ∙ sym c.child_in.ensures in
    let none : child_in maps f name ≡ None = found ∙ there-none c.child_in.result (sym c.is_some.ensures ∙ c.if-is_some.false) in
    let within : f < length nodes = subst (λ (es : List Entry). f < length es) (sym c.self.view_is) asked.0 in
    let folder : node_at nodes f ≡ Folder = subst (λ (es : List Entry). node_at es f ≡ Folder) (sym c.self.view_is) asked.1 in
    let kept = c.put_child.new.inside.items in
    let put : (g : ℕ) (n : List ℕ) → child_in kept g n ≡ cond (nat_eq g f && bytes_eq name n) (Some (length nodes)) (child_in maps g n) = λ g n.
    c.in_ok-put_child.ensures.put g n ∙ ap (λ x. cond (nat_eq g f && bytes_eq x n) (Some c.len-number.result) (child_in maps g n)) c.in_ok-from_str.ensures.ok
    ∙ ap (λ k. cond (nat_eq g f && bytes_eq name n) (Some k) (child_in maps g n)) c.len-number.ensures in
    let long : length kept ≡ length maps + 1 = c.in_ok-put_child.ensures.size in
    let all : IsIndex (nodes ++ entry_in nodes f name c.args.node ∷ []) kept = index-more nodes maps c.self.invariant f name c.args.node within folder none kept put long in
    subst (λ (es : List Entry). IsIndex es kept) (sym (c.in_ok-push.ensures.ok ∙ ap (λ x. nodes ++ entry_in nodes f x c.args.node ∷ []) c.in_ok-from_str-2.ensures)) all

pub returns : goal.returns
returns c = λ above at.
    let there = c.args.self in
    let nodes = c.self.inside.nodes in
    let maps = c.self.inside.inside.items in
    let name = c.args.name.now in
    let f = c.in-Some.folder in
    let h : IsIndex there maps = subst (λ (es : List Entry). IsIndex es maps) c.self.view_is c.self.invariant in
    let here : IsAt there above (Some f) = subst (IsAt there above) c.in-Some.is at in
    let found : child_in maps f name ≡ c.child_in.result = ap (λ ms. child_in ms f name) (sym c.as_slice.ensures.value) ∙ sym c.child_in.ensures in
    let none : child_in maps f name ≡ None = found ∙ there-none c.child_in.result (sym c.is_some.ensures ∙ c.if-is_some.false) in
    c.in_ok-push.ensures.ok ∙ ap (λ x. nodes ++ entry_in nodes f x c.args.node ∷ []) c.in_ok-from_str-2.ensures ∙ ap (λ (es : List Entry). es ++ entry_in es f name c.args.node ∷ []) c.self.view_is
    ∙ node-added there f above name c.args.node here.1 (free-name there maps h f name above here none)
