use Rattle.std.proofs.Common.{◌≡◌, ℕ, suc, zero, ◌<◌, List, [], ◌∷◌, Option, Some, None, IsSome, length, get_or, slice_get, refl, sym, ap, subst, ◌∙◌, true≢false}
use Rattle.std.specs.Option.{option_map_or}
use Rattle.std.proofs.lemmas.Option.{slice_get-get_or, slice_get_within}
use Rattle.tree_table.specs.declared.entries.Entry.{Entry}
use Rattle.tree_table.specs.declared.entries.NamedTree.{NamedTree}
use Rattle.tree_table.specs.declared.order.Key.{Key}
use Rattle.tree_table.specs.Trees.{entries_of}
use Rattle.tree_table.specs.Linked.{IsLonger, entry_of, path_in}
use Rattle.tree_table.specs.Stored.{path_at}
use Rattle.tree_table.proofs.BuildLemmas.{tree-within}
use Rattle.tree_table.proofs.links.is_folder_of.Goals as goal

some-there : {A : Type 0} (o : Option A) → IsSome o → (x : A) × (o ≡ Some x)
some-there None h = absurd (true≢false (sym h))
some-there (Some x) h = (x, refl)

-- the tree of a key
pub record Found (trees : List NamedTree) (key : Key) (d : NamedTree) : Type 0 where
  pub tree : slice_get trees key.tree ≡ Some (get_or trees key.tree d)
  pub entries : entries_of trees key.tree ≡ (get_or trees key.tree d).entries
  pub place : key.place < length (entries_of trees key.tree)

found : (trees : List NamedTree) (key : Key) (d : NamedTree) → IsSome (entry_of trees key) → Found trees key d
found trees key d h =
    let e = some-there (entry_of trees key) h in
    let tree = slice_get-get_or trees key.tree d (tree-within trees key.tree key.place e.0 e.1) in
    record {
      tree = tree;
      entries = ap (λ x. option_map_or (λ (t : NamedTree). t.entries) x []) tree;
      place = slice_get_within (entries_of trees key.tree) key.place e.0 e.1;
    }

path-same : (es : List Entry) (i : ℕ) → option_map_or (λ (e : Entry). e.path) (slice_get es i) [] ≡ path_at es i
path-same [] i = refl
path-same (e ∷ es) zero = refl
path-same (e ∷ es) (suc i) = path-same es i

pub is_in-requires-clause-tree : goal.is_in-requires-clause-tree
is_in-requires-clause-tree c =
    let d = c.index-trees-lower.result in
    let f = found c.args.trees.now c.args.lower.now d c.requires.lower in
    c.requires.trees.each c.args.lower.now.tree (get_or c.args.trees.now c.args.lower.now.tree d) f.tree

pub is_in-requires-clause-upper : goal.is_in-requires-clause-upper
is_in-requires-clause-upper c =
    let d = c.index-trees-lower.result in
    let trees = c.args.trees.now in
    let u = c.args.upper.now in
    let f = found trees c.args.lower.now d c.requires.lower in
    let g = found trees u d c.requires.upper in
    subst (λ (es : List Entry). u.place < length es) f.entries (subst (λ t. u.place < length (entries_of trees t)) c.if-upper-lower.true g.place)

pub is_in-requires-clause-lower : goal.is_in-requires-clause-lower
is_in-requires-clause-lower c =
    let d = c.index-trees-lower.result in
    let f = found c.args.trees.now c.args.lower.now d c.requires.lower in
    subst (λ (es : List Entry). c.args.lower.now.place < length es) f.entries f.place

pub returns-then-upper-lower : goal.returns-then-upper-lower
returns-then-upper-lower c =
    let d = c.index-trees-lower.result in
    let trees = c.args.trees.now in
    let u = c.args.upper.now in
    let l = c.args.lower.now in
    let f = found trees l d c.requires.lower in
    let es = (get_or trees l.tree d).entries in
    let same : u.tree ≡ l.tree = c.if-upper-lower.true in
    let upper : path_in trees u ≡ path_at es u.place = ap (λ t. option_map_or (λ (e : Entry). e.path) (slice_get (entries_of trees t) u.place) []) same
    ∙ path-same (entries_of trees l.tree) u.place ∙ ap (λ (xs : List Entry). path_at xs u.place) f.entries in
    let lower : path_in trees l ≡ path_at es l.place = path-same (entries_of trees l.tree) l.place ∙ ap (λ (xs : List Entry). path_at xs l.place) f.entries in (
      λ yes. record {
        tree = same;
        path = subst (λ (p : List (List ℕ)). IsLonger p (path_in trees l)) (sym upper) (subst (λ (p : List (List ℕ)). IsLonger (path_at es u.place) p) (sym lower) (c.is_in.ensures.0 yes));
      },
      λ folder. c.is_in.ensures.1 (subst (λ (p : List (List ℕ)). IsLonger (path_at es u.place) p) lower (subst (λ (p : List (List ℕ)). IsLonger p (path_in trees l)) upper folder.path)),
    )
