use Rattle.std.proofs.Common.{◌≡◌, ℕ, ◌+◌, ◌∷◌, [], ◌++◌, List, nat_cmp, length, refl, sym, ap, ap₂, ◌∙◌, arith, length-append}
use Rattle.std.specs.Ordering.{ordering_then}
use Rattle.std.specs.Cmp.Lexicographic.{slice_cmp}
use Rattle.std.specs.declared.cmp.Ordering.TheVariants.{Less, Greater}
use Rattle.tree_table.specs.declared.entries.Entry.{Entry}
use Rattle.tree_table.specs.declared.nodes.Kept.{Kept}
use Rattle.tree_table.specs.Trees.{path_cmp}
use Rattle.tree_table.specs.Stored.{IsKept, entry_at, path_at, root_entry}
use Rattle.tree_table.proofs.StoredLemmas.{upper-longer, lower-longer, both-longer}
use Rattle.tree_table.proofs.nodes.Nodes.+path_order.Goals as goal

-- the path of a node, and that it is one name longer than its folder's
path-is : (entries : List Entry) (n : ℕ) (k : Kept) → IsKept entries n k → path_at entries n ≡ path_at entries k.folder ++ k.name ∷ []
path-is entries n k h = ap (λ (e : Entry). e.path) h.is

longer : (entries : List Entry) (n : ℕ) (k : Kept) → IsKept entries n k → k.depth ≡ length (path_at entries k.folder) + 1
longer entries n k h = h.depth ∙ ap length (path-is entries n k h) ∙ omega (arith, length-append (path_at entries k.folder) (k.name ∷ []))

root-path : (entries : List Entry) (n : ℕ) → entry_at entries n ≡ root_entry → path_at entries n ≡ []
root-path entries n root = ap (λ (e : Entry). e.path) root

longest : (p : List (List ℕ)) (x : List ℕ) → Greater ≡ path_cmp (p ++ x ∷ []) []
longest [] x = refl
longest (y ∷ p) x = refl

pub returns-in-None-kept-2 : goal.returns-in-None-kept-2
returns-in-None-kept-2 t c =
    let es = c.args.self.now in
    let a = path-is es c.args.a c.in-Some.x.now c.in-Some.ensures.some in
    let b = root-path es c.args.b c.in-None-kept-2.ensures.none in
    longest (path_at es c.in-Some.x.now.folder) c.in-Some.x.now.name ∙ sym (ap₂ path_cmp a b)

pub returns-then-x-y : goal.returns-then-x-y
returns-then-x-y t c =
    let es = c.args.self.now in
    let x = c.in-Some.x.now in
    let a = path-is es c.args.a x c.in-Some.ensures.some in
    let long = longer es c.args.a x c.in-Some.ensures.some in
    let deep = c.in-Some-kept-2.ensures.some.depth in
    let more = c.if-x-y.true in
    c.then.ensures ∙ ap (λ o. ordering_then o Greater) c.path_order.ensures
    ∙ sym (upper-longer (path_at es x.folder) (path_at es c.args.b) x.name (omega (arith, long, deep, more)))
    ∙ sym (ap (λ p. path_cmp p (path_at es c.args.b)) a)

pub returns-then-y-x : goal.returns-then-y-x
returns-then-y-x t c =
    let es = c.args.self.now in
    let y = c.in-Some-kept-2.y.now in
    let b = path-is es c.args.b y c.in-Some-kept-2.ensures.some in
    let long = longer es c.args.b y c.in-Some-kept-2.ensures.some in
    let deep = c.in-Some.ensures.some.depth in
    let more = c.if-y-x.true in
    c.then-then-y-x.ensures ∙ ap (λ o. ordering_then o Less) c.path_order-then-y-x.ensures
    ∙ sym (lower-longer (path_at es c.args.a) (path_at es y.folder) y.name (omega (arith, long, deep, more)))
    ∙ sym (ap (λ p. path_cmp (path_at es c.args.a) p) b)

pub returns-else-y-x : goal.returns-else-y-x
returns-else-y-x t c =
    let es = c.args.self.now in
    let x = c.in-Some.x.now in
    let y = c.in-Some-kept-2.y.now in
    let a = path-is es c.args.a x c.in-Some.ensures.some in
    let b = path-is es c.args.b y c.in-Some-kept-2.ensures.some in
    let along = longer es c.args.a x c.in-Some.ensures.some in
    let blong = longer es c.args.b y c.in-Some-kept-2.ensures.some in
    let names = c.cmp.ensures in
    c.then-else-y-x.ensures ∙ ap₂ ordering_then c.path_order-above.ensures (names ∙ ap₂ (slice_cmp nat_cmp) c.bytes.ensures.value c.bytes-else-y-x.ensures.value)
    ∙ sym (both-longer (path_at es x.folder) (path_at es y.folder) x.name y.name (omega (arith, along, blong, c.if-x-y.false, c.if-y-x.false)))
    ∙ sym (ap₂ path_cmp a b)
