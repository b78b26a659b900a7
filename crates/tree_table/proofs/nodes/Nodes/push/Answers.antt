use Rattle.std.proofs.Common.{◌≡◌, ◌+◌, ◌<◌, ◌≤◌, List, ◌∷◌, [], ◌++◌, length, sym, ap, subst, ◌∙◌, arith}
use Rattle.tree_table.specs.declared.entries.Entry.{Entry}
use Rattle.tree_table.specs.declared.nodes.Kept.{Kept}
use Rattle.tree_table.specs.Stored.{AreKept, entry_in, entries_from, path_at, root_entry}
use Rattle.tree_table.proofs.StoredLemmas.{length-from, from-more, pushed-kept}
use Rattle.tree_table.proofs.nodes.Nodes.push.Goals as goal

pub overflow_add-depth : goal.overflow_add-depth
overflow_add-depth c =
    let below = c.self.inside.below in
    let size = length-from (root_entry ∷ []) below.items in
    let view = ap length c.self.view_is in
    let few = c.depth-depth.ensures.few in
    let inside = c.requires in
    omega (arith, size, view, few, inside, below.ok.0, below.ok.1, below.small)

pub invariant_of-self : goal.invariant_of-self
invariant_of-self c =
    subst (λ (ks : List Kept). AreKept (entries_from (root_entry ∷ []) ks) ks) (sym c.in_err-push.ensures.items) c.self.invariant

pub invariant_of-self-2 : goal.invariant_of-self-2
invariant_of-self-2 c =
    let below = c.self.inside.below.items in
    let view = entries_from (root_entry ∷ []) below in
    let k : Kept = record { folder = c.args.folder; depth = c.depth-depth.result + 1; name = c.args.name; node = c.args.node } in
    let size = length-from (root_entry ∷ []) below in
    let seen : view ≡ c.args.self.now = c.self.view_is in
    let inside : c.args.folder < length view = omega (arith, c.requires, ap length seen) in
    let depth : k.depth ≡ length (path_at view c.args.folder) + 1 = omega (arith, c.depth-depth.ensures.value, ap (λ (es : List Entry). length (path_at es c.args.folder)) seen) in
    let few : length (path_at view c.args.folder) ≤ c.args.folder = omega (arith, depth, c.depth-depth.ensures.few) in
    let all : AreKept (view ++ entry_in view k.folder k.name k.node ∷ []) (below ++ k ∷ []) = pushed-kept view below k c.self.invariant (omega (arith, size)) inside depth few in
    subst (λ (ks : List Kept). AreKept (entries_from (root_entry ∷ []) ks) ks) (sym c.in_ok-push.ensures.items)
    (subst (λ (es : List Entry). AreKept es (below ++ k ∷ [])) (sym (from-more (root_entry ∷ []) below k)) all)

pub returns-clause-ok : goal.returns-clause-ok
returns-clause-ok c =
    let below = c.self.inside.below.items in
    let k : Kept = record { folder = c.args.folder; depth = c.depth-depth.result + 1; name = c.args.name; node = c.args.node } in
    ap (entries_from (root_entry ∷ [])) c.in_ok-push.ensures.items ∙ from-more (root_entry ∷ []) below k
    ∙ ap (λ (es : List Entry). es ++ entry_in es c.args.folder c.args.name c.args.node ∷ []) c.self.view_is
