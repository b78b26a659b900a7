-- Nodes in order: the folders of nodes in order are in order too.
use Rattle.std.proofs.Common.{◌≡◌, ℕ, zero, suc, ◌<◌, ◌≤◌, List, [], ◌∷◌, ◌++◌, Some, Ordering, nat_cmp, length, slice_get, refl, sym, ap, subst, ◌∙◌, inl, inr, arith, length-append}
use Rattle.std.specs.Option.{option_map_or}
use Rattle.std.specs.Ordering.{ordering_then, ordering_reverse}
use Rattle.std.specs.Cmp.{IsTotalOrder}
use Rattle.std.specs.Cmp.Lexicographic.{slice_cmp}
use Rattle.std.specs.declared.cmp.Ordering.TheVariants.{Less, Equal, Greater}
use Rattle.std.proofs.lemmas.Bool.{cases_lt, cases_eq}
use Rattle.std.proofs.lemmas.Cmp.{nat_list_cmp_total, lists_total, tied_itself}
use Rattle.std.proofs.lemmas.Option.{slice_get_within}
use Rattle.tree_table.specs.declared.entries.Entry.{Entry}
use Rattle.tree_table.specs.declared.entries.Node.TheVariants.{Folder}
use Rattle.tree_table.specs.declared.entries.NamedTree.{NamedTree}
use Rattle.tree_table.specs.declared.order.Key.{Key}
use Rattle.tree_table.specs.Trees.{AreTrees, IsTree, entries_of, path_cmp}
use Rattle.tree_table.specs.Orders.{root_key, key_at, Before, IsOrder}
use Rattle.tree_table.specs.Linked.{entry_of, path_in, IsLonger, IsFolderOf}

-- ---- paths in order

pub lex-append : (q p xs ys : List (List ℕ)) → length q ≡ length p → path_cmp q p ≡ Less → path_cmp (q ++ ys) (p ++ xs) ≡ Less
lex-append [] [] xs ys long less = cc
lex-append [] (b ∷ p) xs ys long less = absurd (omega (arith, long))
lex-append (a ∷ q) [] xs ys long less = absurd (omega (arith, long))
lex-append (a ∷ q) (b ∷ p) xs ys long less = by (slice_cmp nat_cmp a b) less (λ e. lex-append q p xs ys (omega (arith, long)) e)
  where
    by : (o : Ordering) → ordering_then o (path_cmp q p) ≡ Less → (path_cmp q p ≡ Less → path_cmp (q ++ ys) (p ++ xs) ≡ Less) → ordering_then o (path_cmp (q ++ ys) (p ++ xs)) ≡ Less
    by Less less deeper = refl
    by Equal less deeper = deeper less
    by Greater less deeper = cc

pub last-less : (p : List (List ℕ)) (x y : List ℕ) → path_cmp (p ++ x ∷ []) (p ++ y ∷ []) ≡ Less → slice_cmp nat_cmp x y ≡ Less
last-less [] x y less = by (slice_cmp nat_cmp x y) less
  where
    by : (o : Ordering) → ordering_then o Equal ≡ Less → o ≡ Less
    by Less less = refl
    by Equal less = cc
    by Greater less = cc
last-less (a ∷ p) x y less = last-less p x y (rw (tied_itself nat_list_cmp_total a) at less)

path_total : IsTotalOrder path_cmp
path_total = lists_total nat_list_cmp_total

not-both : (p q : List (List ℕ)) → path_cmp p q ≡ Less → path_cmp q p ≡ Less → ⊥
not-both p q one other = let back = path_total.antisymm p q in let turned : path_cmp p q ≡ Greater = back ∙ ap ordering_reverse other in cc

pub last-of : (p : List (List ℕ)) → 0 < length p → (above : List (List ℕ)) × IsLonger above p
last-of [] some = absurd (omega arith)
last-of (x ∷ []) some = ([], record { name = x; is = refl })
last-of (x ∷ y ∷ p) some = let rest = last-of (y ∷ p) (omega arith) in (x ∷ rest.0, record { name = rest.1.name; is = ap (λ q. x ∷ q) rest.1.is })

pub longer-by : (upper lower : List (List ℕ)) → IsLonger upper lower → length lower ≡ suc (length upper)
longer-by upper lower more = omega (arith, ap length more.is, length-append upper (more.name ∷ []))

-- ---- nodes in order

pub record IsLaid (trees : List NamedTree) (n R : ℕ) (key : ℕ → Key) : Type 0 where
  pub enough : R ≤ n
  pub roots : (i : ℕ) → i < R → key i ≡ root_key i
  pub there : (i : ℕ) → i < n → (e : Entry) × (entry_of trees (key i) ≡ Some e)
  pub deep : (i : ℕ) → i < n → (key i).depth ≡ length (path_in trees (key i))
  pub lower : (i : ℕ) → R ≤ i → i < n → 0 < (key i).depth
  pub rising : (i j : ℕ) → R ≤ i → i < j → j < n → Before (key i) (key j)
  pub by_path : (i j : ℕ) → i < n → j < n → (key i).tree ≡ (key j).tree → (key i).place < (key j).place → path_cmp (path_in trees (key i)) (path_in trees (key j)) ≡ Less
  pub folder : (i : ℕ) (above : List (List ℕ)) → R ≤ i → i < n → IsLonger above (path_in trees (key i)) → (q : ℕ) × (q < n) × ((key q).tree ≡ (key i).tree) × (path_in trees (key q) ≡ above)

module _ (trees : List NamedTree) (n R : ℕ) (key : ℕ → Key) (l : IsLaid trees n R key) where
  pub before-all : (i j : ℕ) → i < j → j < n → Before (key i) (key j)
  before-all i j less within =
      elim (cases_lt i R) [
        | inr high ↦ l.rising i j high less within
        | inl low ↦ elim (cases_lt j R) [
          | inl also ↦
              let one = l.roots i low in
              let two = l.roots j also in
              subst (λ k. Before k (key j)) (sym one) (subst (Before (root_key i)) (sym two) (inr (refl, inl less)))
          | inr high ↦
              let one = l.roots i low in
              let deep = l.lower j high within in
              subst (λ k. Before k (key j)) (sym one) (inl deep)
        ]
      ]

  -- a folder has one name less than what is in it
  pub folder-deep : (p k : ℕ) → p < n → k < n → IsFolderOf trees (key p) (key k) → (key k).depth ≡ suc ((key p).depth)
  folder-deep p k wp wk f = omega (arith, l.deep p wp, l.deep k wk, longer-by _ _ f.path)

  -- each node below a root has a folder before it
  pub some-folder : (k : ℕ) → R ≤ k → k < n → (q : ℕ) × (q < k) × IsFolderOf trees (key q) (key k)
  some-folder k high within =
      let cut = last-of (path_in trees (key k)) (omega (arith, l.lower k high within, l.deep k within)) in
      let found = l.folder k cut.0 high within cut.1 in
      let more : IsLonger (path_in trees (key found.0)) (path_in trees (key k)) = subst (λ p. IsLonger p (path_in trees (key k))) (sym found.3) cut.1 in
      let f : IsFolderOf trees (key found.0) (key k) = record { tree = found.2; path = more } in
      let deep = folder-deep found.0 k found.1 within f in
      (found.0, before found.0 found.1 deep, f)
    where
      before : (q : ℕ) → q < n → (key k).depth ≡ suc ((key q).depth) → q < k
      before q wq deep =
          elim (cases_lt q k) [
            | inl less ↦ less
            | inr more ↦ elim (cases_eq k q) [
              | inl same ↦ let e = ap (λ i. (key i).depth) same in absurd (omega arith)
              | inr other ↦ elim (before-all k q (omega arith) wq) [
                | inl d ↦ absurd (omega arith)
                | inr d ↦ absurd (omega (arith, d.0))
              ]
            ]
          ]

  -- the folders of nodes in order are in order
  pub folders-rise : (p q j k : ℕ) → j < k → k < n → p < n → q < n → IsFolderOf trees (key p) (key j) → IsFolderOf trees (key q) (key k) → p ≤ q
  folders-rise p q j k less wk wp wq fp fq =
      elim (cases_lt q p) [
        | inr fine ↦ fine
        | inl wrong ↦ absurd (out (before-all q p wrong wp) (before-all j k less wk))
      ]
    where
      deep_j : (key j).depth ≡ suc ((key p).depth)
      deep_j = folder-deep p j wp (omega arith) fp

      deep_k : (key k).depth ≡ suc ((key q).depth)
      deep_k = folder-deep q k wq wk fq

      -- both stand in one tree at one depth
      level : (key q).depth ≡ (key p).depth → (key q).tree ≡ (key p).tree → (key q).place < (key p).place → (key j).place < (key k).place → ⊥
      level deep home place later =
          let upper = l.by_path q p wq wp home place in
          let same : length (path_in trees (key q)) ≡ length (path_in trees (key p)) = omega (arith, l.deep q wq, l.deep p wp) in
          let long = lex-append (path_in trees (key q)) (path_in trees (key p)) (fp.path.name ∷ []) (fq.path.name ∷ []) same upper in
          let one : path_cmp (path_in trees (key k)) (path_in trees (key j)) ≡ Less = rw (fp.path.is, fq.path.is) long in
          let trees_same : (key j).tree ≡ (key k).tree = sym fp.tree ∙ sym home ∙ fq.tree in
          let other = l.by_path j k (omega arith) wk trees_same later in
          not-both (path_in trees (key k)) (path_in trees (key j)) one other

      out : Before (key q) (key p) → Before (key j) (key k) → ⊥
      out (inl d) (inl e) = omega (arith, deep_j, deep_k)
      out (inl d) (inr e) = omega (arith, deep_j, deep_k, e.0)
      out (inr (d, inl t)) (inl e) = omega (arith, deep_j, deep_k)
      out (inr (d, inl t)) (inr (e, inl u)) = omega (arith, fp.tree, fq.tree)
      out (inr (d, inl t)) (inr (e, inr u)) = omega (arith, fp.tree, fq.tree, u.0)
      out (inr (d, inr t)) (inl e) = omega (arith, deep_j, deep_k)
      out (inr (d, inr t)) (inr (e, inl u)) = omega (arith, fp.tree, fq.tree, t.0)
      out (inr (d, inr t)) (inr (e, inr u)) = level d t.0 t.1 u.1

-- ---- the order of trees lays the nodes

module _ (trees : List NamedTree) (order : List Key) (sound : AreTrees trees) (o : IsOrder trees order) where
  tree-there : (t : ℕ) (ts : List NamedTree) → t < length ts → (tree : NamedTree) × (slice_get ts t ≡ Some tree)
  tree-there t [] w = absurd (omega arith)
  tree-there zero (x ∷ ts) w = (x, refl)
  tree-there (suc t) (x ∷ ts) w = tree-there t ts (omega arith)

  tree-of : (ts : List NamedTree) (t i : ℕ) (e : Entry) → slice_get (entries_of ts t) i ≡ Some e → (tree : NamedTree) × (slice_get ts t ≡ Some tree)
  tree-of [] t i e is = cc
  tree-of (x ∷ ts) zero i e is = (x, refl)
  tree-of (x ∷ ts) (suc t) i e is = tree-of ts t i e is

  -- the entries of a tree that is there
  pub is-tree : (t i : ℕ) (e : Entry) → slice_get (entries_of trees t) i ≡ Some e → IsTree (entries_of trees t)
  is-tree t i e is =
      let found = tree-of trees t i e is in
      let same : entries_of trees t ≡ found.0.entries = ap (λ x. option_map_or (λ tree. tree.entries) x []) found.1 in
      subst IsTree (sym same) (sound.each t found.0 found.1)

  root-there : (t : ℕ) → t < length trees → slice_get (entries_of trees t) 0 ≡ Some (record { path = []; node = Folder })
  root-there t w =
      let found = tree-there t trees w in
      let same : entries_of trees t ≡ found.0.entries = ap (λ x. option_map_or (λ tree. tree.entries) x []) found.1 in
      ap (λ es. slice_get es 0) same ∙ (sound.each t found.0 found.1).root

  abbrev key : ℕ → Key
  key i = key_at order i

  -- every node's entry
  pub entry-there : (i : ℕ) → i < length order → (e : Entry) × (entry_of trees (key_at order i) ≡ Some e)
  entry-there i within =
      elim (cases_lt i (length trees)) [
        | inl low ↦ (record { path = []; node = Folder }, ap (entry_of trees) (o.roots i low) ∙ root-there i low)
        | inr high ↦ let at = o.placed i high within in (at.entry, at.there)
      ]

  path-is : (k : Key) (e : Entry) → entry_of trees k ≡ Some e → path_in trees k ≡ e.path
  path-is k e is = ap (λ x. option_map_or (λ e. e.path) x []) is

  deep-at : (i : ℕ) → i < length order → (key_at order i).depth ≡ length (path_in trees (key_at order i))
  deep-at i within =
      elim (cases_lt i (length trees)) [
        | inl low ↦
            let P : Key → Type 0 = λ k. k.depth ≡ length (path_in trees k) in
            let here : P (root_key i) = sym (ap length (path-is (root_key i) _ (root-there i low))) in
            subst P (sym (o.roots i low)) here
        | inr high ↦ let at = o.placed i high within in at.depth ∙ sym (ap length (path-is (key i) at.entry at.there))
      ]

  longer-than-root : (p : List (List ℕ)) → path_cmp [] p ≡ Less → 0 < length p
  longer-than-root [] less = cc
  longer-than-root (x ∷ p) less = omega arith

  lower-at : (i : ℕ) → length trees ≤ i → i < length order → 0 < (key_at order i).depth
  lower-at i high within =
      let at = o.placed i high within in
      let tree = is-tree (key i).tree (key i).place at.entry at.there in
      let some = longer-than-root at.entry.path (tree.ordered 0 (key i).place _ at.entry at.behind tree.root at.there) in
      omega (arith, at.depth)

  by-path : (i j : ℕ) → i < length order → j < length order → (key_at order i).tree ≡ (key_at order j).tree → (key_at order i).place < (key_at order j).place → path_cmp (path_in trees (key_at order i)) (path_in trees (key_at order j)) ≡ Less
  by-path i j wi wj home less =
      let one = entry-there i wi in
      let two = entry-there j wj in
      let tree = is-tree (key i).tree (key i).place one.0 one.1 in
      let there : slice_get (entries_of trees (key i).tree) (key j).place ≡ Some two.0 = ap (λ t. slice_get (entries_of trees t) (key j).place) home ∙ two.1 in
      let before = tree.ordered (key i).place (key j).place one.0 two.0 less one.1 there in
      subst (λ p. path_cmp p (path_in trees (key j)) ≡ Less) (sym (path-is (key i) one.0 one.1)) (subst (λ p. path_cmp one.0.path p ≡ Less) (sym (path-is (key j) two.0 two.1)) before)

  folder-at : (i : ℕ) (above : List (List ℕ)) → length trees ≤ i → i < length order → IsLonger above (path_in trees (key_at order i)) → (q : ℕ) × (q < length order) × ((key_at order q).tree ≡ (key_at order i).tree) × (path_in trees (key_at order q) ≡ above)
  folder-at i above high within more =
      let at = entry-there i within in
      let t = (key i).tree in
      let tree = is-tree t (key i).place at.0 at.1 in
      let found = tree.folders (key i).place at.0 above more.name at.1 (sym (path-is (key i) at.0 at.1) ∙ more.is) in
      let home = tree-of trees t (key i).place at.0 at.1 in
      by found.0 t (slice_get_within trees t home.0 home.1) found.1
    where
      by : (j t : ℕ) → t < length trees → slice_get (entries_of trees t) j ≡ Some (record { path = above; node = Folder }) → (q : ℕ) × (q < length order) × ((key_at order q).tree ≡ t) × (path_in trees (key_at order q) ≡ above)
      by zero t low is =
          let root = o.roots t low in
          (t, omega (arith, o.enough), ap (λ (k : Key). k.tree) root, ap (path_in trees) root ∙ path-is (root_key t) (record { path = above; node = Folder }) is)
      by (suc p) t low is =
          let all = o.whole t p (record { path = above; node = Folder }) is in
          (all.0, all.2, ap (λ (k : Key). k.tree) all.3, ap (path_in trees) all.3 ∙ path-is (record { depth = length above; tree = t; place = suc p }) (record { path = above; node = Folder }) is)

  pub laid : IsLaid trees (length order) (length trees) (key_at order)
  laid = record {
    enough = o.enough;
    roots = o.roots;
    there = entry-there;
    deep = deep-at;
    lower = lower-at;
    rising = o.rising;
    by_path = by-path;
    folder = folder-at;
  }
