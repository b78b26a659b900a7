-- Trees that pass the test are as a table asks.
use Rattle.std.proofs.Common.{◌≡◌, ℕ, zero, suc, ◌+◌, ◌-◌, ◌<◌, ◌≤◌, List, [], ◌∷◌, ◌++◌, Some, length, take, drop, get_or, slice_get, All, sym, ap, subst, ◌∙◌, arith, length-append}
use Rattle.std.specs.declared.cmp.Ordering.TheVariants.{Less}
use Rattle.std.proofs.lemmas.List.{get_or-take, length-take-le, same_from_push, drop_more, drop_all}
use Rattle.std.proofs.lemmas.List.Elements.{All-nil}
use Rattle.std.proofs.lemmas.Option.{slice_get_within, get_or_from_slice_get}
use Rattle.tree_table.specs.declared.entries.Entry.{Entry}
use Rattle.tree_table.specs.declared.entries.NamedTree.{NamedTree}
use Rattle.tree_table.specs.declared.entries.Node.{Node}
use Rattle.tree_table.specs.declared.entries.Node.TheVariants.{Folder}
use Rattle.tree_table.specs.Trees.{AreTrees, IsTree, IsShort, path_cmp, node_count}
use Rattle.value_rows.specs.Checks.{Fits}

at-take : (es : List Entry) (n j : ℕ) (e : Entry) → slice_get (take n es) j ≡ Some e → slice_get es j ≡ Some e
at-take es zero j e is = cc
at-take [] (suc n) j e is = cc
at-take (x ∷ es) (suc n) zero e is = is
at-take (x ∷ es) (suc n) (suc j) e is = at-take es n j e is

abbrev pub FitAt : List Entry → ℕ → Type 0
FitAt es k = (d : Entry) → Fits (take k es) (get_or es k d)

abbrev pub root_entry : Entry
root_entry = record { path = []; node = Folder }

module _ (es : List Entry) (root : slice_get es 0 ≡ Some (record { path = []; node = Folder })) (fit : (k : ℕ) → 1 ≤ k → k < length es → FitAt es k) where
  fit-at : (k : ℕ) (e : Entry) → 1 ≤ k → slice_get es k ≡ Some e → Fits (take k es) e
  fit-at k e some there = subst (Fits (take k es)) (get_or_from_slice_get es k e e there) (fit k some (slice_get_within es k e there) e)

  ordered : (i j : ℕ) (a b : Entry) → i < j → slice_get es i ≡ Some a → slice_get es j ≡ Some b → path_cmp a.path b.path ≡ Less
  ordered i j a b less one two =
      let f = fit-at j b (omega arith) two in
      let long = length-take-le j es (omega (arith, slice_get_within es j b two)) in
      let at = f.ordered i a (omega arith) in
      let same : get_or (take j es) i a ≡ a = get_or-take j es i a less ∙ get_or_from_slice_get es i a a one in
      subst (λ (e : Entry). path_cmp e.path b.path ≡ Less) same at

  entry-same : (e : Entry) (above : List (List ℕ)) → e.path ≡ above → e.node ≡ Folder → e ≡ record { path = above; node = Folder }
  entry-same e above p n =
      let P : List (List ℕ) → Node → Entry = λ q m. record { path = q; node = m } in
      ap (λ (q : List (List ℕ)). P q e.node) p ∙ ap (P above) n

  folders : (i : ℕ) (e : Entry) (above : List (List ℕ)) (name : List ℕ) → slice_get es i ≡ Some e → e.path ≡ above ++ name ∷ [] → (j : ℕ) × (slice_get es j ≡ Some (record { path = above; node = Folder }))
  folders zero e above name there is =
      let first : root_entry ≡ e = cc in
      let none : [] ≡ above ++ name ∷ [] = ap (λ (x : Entry). x.path) first ∙ is in
      absurd (omega (arith, ap length none, length-append above (name ∷ [])))
  folders (suc i) e above name there is =
      let h = (fit-at (suc i) e (omega arith) there).housed in
      let same = same_from_push h.entry.path above h.above.name name (sym h.above.is ∙ is) in
      (h.at, at-take es (suc i) h.at h.entry h.there ∙ ap Some (entry-same h.entry above same.0 h.folder))

  short : (i : ℕ) (e : Entry) → slice_get es i ≡ Some e → All IsShort e.path
  short zero e there =
      let first : root_entry ≡ e = cc in
      subst (λ (x : Entry). All IsShort x.path) first (All-nil IsShort)
  short (suc i) e there = (fit-at (suc i) e (omega arith) there).short

  pub tree_from : IsTree es
  tree_from = record { root = root; ordered = ordered; folders = folders; short = short }

-- one tree more is counted
pub counted : (ts : List NamedTree) (i left : ℕ) (t : NamedTree) → i < length ts → t ≡ get_or ts i t → length t.entries ≤ left → node_count ts + left ≡ 65536 + node_count (drop i ts) → node_count ts + (left - length t.entries) ≡ 65536 + node_count (drop (i + 1) ts)
counted ts i left t within is room so_far =
    let rest : node_count (drop i ts) ≡ length t.entries + node_count (drop (i + 1) ts) = ap node_count (drop_more ts i t within) ∙ ap (λ (x : NamedTree). length x.entries + node_count (drop (i + 1) ts)) (sym is) in
    omega arith

pub trees_from : (ts : List NamedTree) (left : ℕ) → node_count ts + left ≡ 65536 + node_count (drop (length ts) ts) → ((t : ℕ) (d : NamedTree) → t < length ts → IsTree (get_or ts t d).entries) → AreTrees ts
trees_from ts left counts each = record {
  each = λ t tree there. subst (λ (x : NamedTree). IsTree x.entries) (get_or_from_slice_get ts t tree tree there) (each t tree (slice_get_within ts t tree there));
  nodes = omega (arith, counts, ap node_count (drop_all (length ts) ts (omega arith)));
}
