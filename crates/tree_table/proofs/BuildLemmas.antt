-- The rows of nodes that are linked are sound, and stand for the trees.
use Rattle.std.proofs.Common.{◌≡◌, ◌≢◌, ℕ, zero, suc, ◌+◌, ◌<◌, ◌≤◌, List, [], ◌∷◌, ◌++◌, Option, Some, None, Bool, true, false, cond, nat_cmp, length, reverse, slice_get, get_or, All, refl, sym, ap, subst, ◌∙◌, inl, inr, arith}
use Rattle.std.specs.Option.{option_map_or}
use Rattle.std.specs.Cmp.Lexicographic.{slice_cmp}
use Rattle.std.specs.declared.cmp.Ordering.TheVariants.{Less}
use Rattle.std.proofs.lemmas.Bool.{cases_lt}
use Rattle.std.proofs.lemmas.List.{length_push, get_or_append_left, get_or_push, reverse-append}
use Rattle.std.proofs.lemmas.List.Elements.{All-head, All-tail}
use Rattle.std.proofs.lemmas.Option.{slice_get-get_or}
use Rattle.tree_table.specs.declared.entries.Node.{Node}
use Rattle.tree_table.specs.declared.entries.Node.TheVariants.{Folder}
use Rattle.tree_table.specs.declared.entries.Entry.{Entry}
use Rattle.tree_table.specs.declared.entries.NamedTree.{NamedTree}
use Rattle.tree_table.specs.declared.order.Key.{Key}
use Rattle.tree_table.specs.Trees.{AreTrees, IsShort, entries_of, node_count, path_cmp, same_path, tree_map}
use Rattle.tree_table.specs.Forests.{IsForest}
use Rattle.tree_table.specs.Tables.{Row, Forest, IsSound, IsEntry, Holds, tree_of, place_of, name_of, parent_of, from_of, to_of, node_of, path_of, map_of}
use Rattle.tree_table.specs.Orders.{key_at, Before, IsOrder}
use Rattle.tree_table.specs.Linked.{entry_of, path_in, IsFolderOf, IsLinked, AreLinks, end_name, row_for, rows_upto}
use Rattle.tree_table.proofs.ForestLemmas.{path-root, path-inner, is_map, IsMapOf, same_path-is, same_path-self}
use Rattle.tree_table.proofs.LayLemmas.{IsLaid, laid, entry-there, is-tree, before-all, folder-deep, last-less}

-- ---- the last name

pub end-longer : (upper : List (List ℕ)) (x : List ℕ) → end_name (upper ++ x ∷ []) ≡ x
end-longer [] x = refl
end-longer (a ∷ []) x = refl
end-longer (a ∷ b ∷ upper) x = end-longer (b ∷ upper) x

end-short : (p : List (List ℕ)) → All IsShort p → length (end_name p) ≤ 255
end-short [] all = omega arith
end-short (x ∷ []) all = All-head IsShort x [] all
end-short (x ∷ y ∷ p) all = end-short (y ∷ p) (All-tail IsShort x (y ∷ p) all)

turned : (upper : List (List ℕ)) (x : List ℕ) → reverse (upper ++ x ∷ []) ≡ x ∷ reverse upper
turned upper x = reverse-append upper (x ∷ [])

-- a tree that has an entry is there
pub tree-within : (ts : List NamedTree) (t i : ℕ) (e : Entry) → slice_get (entries_of ts t) i ≡ Some e → t < length ts
tree-within [] t i e is = cc
tree-within (x ∷ ts) zero i e is = omega arith
tree-within (x ∷ ts) (suc t) i e is = omega (arith, tree-within ts t i e is)

-- and has no more entries than all trees
pub entries-few : (ts : List NamedTree) (t : ℕ) → length (entries_of ts t) ≤ node_count ts
entries-few [] t = omega arith
entries-few (x ∷ ts) zero = omega arith
entries-few (x ∷ ts) (suc t) = omega (arith, entries-few ts t)

module _ (trees : List NamedTree) (order : List Key) (parents first : List ℕ) where
  abbrev row : ℕ → Row
  row i = row_for trees order parents first i

  pub length-rows : (n : ℕ) → length (rows_upto trees order parents first n) ≡ n
  length-rows zero = refl
  length-rows (suc n) = omega (arith, length_push (rows_upto trees order parents first n) (row n), length-rows n)

  rows-get : (n i : ℕ) (d : Row) → i < n → get_or (rows_upto trees order parents first n) i d ≡ row_for trees order parents first i
  rows-get zero i d w = absurd (omega arith)
  rows-get (suc n) i d w =
      elim (cases_lt i n) [
        | inl low ↦ get_or_append_left (rows_upto trees order parents first n) (row n ∷ []) d i (omega (arith, length-rows n)) ∙ rows-get n i d low
        | inr high ↦
            let same : n ≡ i = omega arith in
            get_or_push (rows_upto trees order parents first n) (row n) d i (length-rows n ∙ same) ∙ ap row same
      ]

  pub row-at : (n i : ℕ) → i < n → slice_get (rows_upto trees order parents first n) i ≡ Some (row_for trees order parents first i)
  row-at n i w =
      slice_get-get_or (rows_upto trees order parents first n) i (row i) (omega (arith, length-rows n)) ∙ ap Some (rows-get n i (row i) w)

  -- the forest of all rows
  abbrev pub built : Forest
  built = record { roots = length trees; rows = rows_upto trees order parents first (length order) }

  module _ (sound : AreTrees trees) (o : IsOrder trees order) (l : AreLinks trees order parents first) where
    lay : IsLaid trees (length order) (length trees) (key_at order)
    lay = laid trees order sound o

    k : IsLinked trees (length order) (length trees) (key_at order) (λ i. get_or parents i 0) (λ a. get_or first a (length order))
    k = l.linked

    at : (i : ℕ) → i < length order → slice_get (rows_upto trees order parents first (length order)) i ≡ Some (row_for trees order parents first i)
    at i w = row-at (length order) i w

    size : length (rows_upto trees order parents first (length order)) ≡ length order
    size = length-rows (length order)

    tree-is : (i : ℕ) → i < length order → tree_of built i ≡ (key_at order i).tree
    tree-is i w = ap (λ x. option_map_or (λ (r : Row). r.tree) x 0) (at i w)

    place-is : (i : ℕ) → i < length order → place_of built i ≡ (key_at order i).place
    place-is i w = ap (λ x. option_map_or (λ (r : Row). r.place) x 0) (at i w)

    name-is : (i : ℕ) → i < length order → name_of built i ≡ end_name (path_in trees (key_at order i))
    name-is i w = ap (λ x. option_map_or (λ (r : Row). r.name) x []) (at i w)

    parent-is : (i : ℕ) → i < length order → parent_of built i ≡ get_or parents i 0
    parent-is i w = ap (λ x. option_map_or (λ (r : Row). r.parent) x 0) (at i w)

    from-is : (i : ℕ) → i < length order → from_of built i ≡ get_or first i (length order)
    from-is i w = ap (λ x. option_map_or (λ (r : Row). r.from) x 0) (at i w)

    to-is : (i : ℕ) → i < length order → to_of built i ≡ get_or first (suc i) (length order)
    to-is i w =
        let more : i + 1 ≡ suc i = omega arith in
        ap (λ x. option_map_or (λ (r : Row). r.to) x 0) (at i w) ∙ ap (λ a. get_or first a (length order)) more

    node-is : (i : ℕ) (e : Entry) → i < length order → entry_of trees (key_at order i) ≡ Some e → node_of built i ≡ e.node
    node-is i e w is = ap (λ x. option_map_or (λ (r : Row). r.node) x Folder) (at i w) ∙ ap (λ x. option_map_or (λ (e : Entry). e.node) x Folder) is

    root-path : (i : ℕ) → i < length trees → path_in trees (key_at order i) ≡ []
    root-path i low =
        let w : i < length order = omega (arith, o.enough) in
        let key = o.roots i low in
        let none : length (path_in trees (key_at order i)) ≡ 0 = sym (lay.deep i w) ∙ ap (λ (x : Key). x.depth) key in
        by (path_in trees (key_at order i)) none
      where
        by : (p : List (List ℕ)) → length p ≡ 0 → p ≡ []
        by [] e = refl
        by (x ∷ p) e = absurd (omega arith)

    -- the children of a folder stand in order of their names
    siblings : (i a b : ℕ) → length trees ≤ a → a < b → b < length order → get_or parents a 0 ≡ i → get_or parents b 0 ≡ i → slice_cmp nat_cmp (name_of built a) (name_of built b) ≡ Less
    siblings i a b low less within pa pb =
        let wa : a < length order = omega arith in
        let fa : IsFolderOf trees (key_at order i) (key_at order a) = subst (λ p. IsFolderOf trees (key_at order p) (key_at order a)) pa (k.folder a low wa) in
        let fb : IsFolderOf trees (key_at order i) (key_at order b) = subst (λ p. IsFolderOf trees (key_at order p) (key_at order b)) pb (k.folder b (omega arith) within) in
        let up = k.up a low wa in
        let wi : i < length order = omega arith in
        let da = folder-deep trees (length order) (length trees) (key_at order) lay i a wi wa fa in
        let db = folder-deep trees (length order) (length trees) (key_at order) lay i b wi within fb in
        let home : (key_at order a).tree ≡ (key_at order b).tree = sym fa.tree ∙ fb.tree in
        let place : (key_at order a).place < (key_at order b).place = later (before-all trees (length order) (length trees) (key_at order) lay a b less within) (da ∙ sym db) home in
        let paths = lay.by_path a b wa within home place in
        let names : slice_cmp nat_cmp fa.path.name fb.path.name ≡ Less = last-less (path_in trees (key_at order i)) fa.path.name fb.path.name (subst (λ p. path_cmp p (path_in trees (key_at order i) ++ fb.path.name ∷ []) ≡ Less) fa.path.is (subst (λ p. path_cmp (path_in trees (key_at order a)) p ≡ Less) fb.path.is paths)) in
        let na : name_of built a ≡ fa.path.name = name-is a wa ∙ ap end_name fa.path.is ∙ end-longer (path_in trees (key_at order i)) fa.path.name in
        let nb : name_of built b ≡ fb.path.name = name-is b within ∙ ap end_name fb.path.is ∙ end-longer (path_in trees (key_at order i)) fb.path.name in
        subst (λ (n : List ℕ). slice_cmp nat_cmp n (name_of built b) ≡ Less) (sym na) (subst (λ (n : List ℕ). slice_cmp nat_cmp fa.path.name n ≡ Less) (sym nb) names)
      where
        later : Before (key_at order a) (key_at order b) → (key_at order a).depth ≡ (key_at order b).depth → (key_at order a).tree ≡ (key_at order b).tree → (key_at order a).place < (key_at order b).place
        later (inl d) deep home = absurd (omega arith)
        later (inr (d, inl t)) deep home = absurd (omega arith)
        later (inr (d, inr t)) deep home = t.1

    forest : IsForest (length order) (length trees) (tree_of built) (name_of built) (parent_of built) (from_of built) (to_of built)
    forest = record {
      some = o.enough;
      roots_trees = λ i low. tree-is i (omega (arith, o.enough)) ∙ ap (λ (x : Key). x.tree) (o.roots i low);
      roots_names = λ i low. name-is i (omega (arith, o.enough)) ∙ ap end_name (root-path i low);
      up = λ i low w. omega (arith, parent-is i w, k.up i low w);
      home = λ i low w.
          let up = k.up i low w in
          ap (tree_of built) (parent-is i w) ∙ tree-is (get_or parents i 0) (omega arith) ∙ (k.folder i low w).tree ∙ sym (tree-is i w);
      above_from = λ i low w.
          let up = k.up i low w in
          subst (λ p. from_of built p ≤ i) (sym (parent-is i w)) (omega (arith, from-is (get_or parents i 0) (omega arith), k.low i low w));
      below_to = λ i low w.
          let up = k.up i low w in
          subst (λ p. i < to_of built p) (sym (parent-is i w)) (omega (arith, to-is (get_or parents i 0) (omega arith), k.high i low w));
      ordered = λ i w. omega (arith, from-is i w, to-is i w, k.rising i (suc i) (omega arith));
      inside = λ i w. omega (arith, to-is i w, k.inside (suc i));
      behind = λ i w. omega (arith, from-is i w, k.behind i);
      own = λ i j w low high.
          let top = k.inside (suc i) in
          let wj : j < length order = omega (arith, to-is i w) in
          parent-is j wj ∙ k.own i j (omega (arith, from-is i w)) (omega (arith, to-is i w));
      sorted = λ i a b w low less high.
          let top = k.inside (suc i) in
          let bottom = k.behind i in
          let f = from-is i w in
          let t = to-is i w in
          siblings i a b (omega arith) less (omega arith) (k.own i a (omega arith) (omega arith)) (k.own i b (omega arith) (omega arith));
      short = λ i w.
          let e = entry-there trees order sound o i w in
          let tree = is-tree trees order sound o (key_at order i).tree (key_at order i).place e.0 e.1 in
          let named : path_in trees (key_at order i) ≡ e.0.path = ap (λ x. option_map_or (λ (e : Entry). e.path) x []) e.1 in
          subst (λ (n : List ℕ). length n ≤ 255) (sym (name-is i w ∙ ap end_name named)) (end-short e.0.path (tree.short (key_at order i).place e.0 e.1));
    }

    pub is_sound : IsSound (record { roots = length trees; rows = rows_upto trees order parents first (length order) })
    is_sound = subst (λ n. IsForest n (length trees) (tree_of built) (name_of built) (parent_of built) (from_of built) (to_of built)) (sym size) forest

    -- a node's path is that of its entry
    inner : (i : ℕ) → i < length order → length trees ≤ i → (get_or parents i 0 < i → path_of built (get_or parents i 0) ≡ reverse (path_in trees (key_at order (get_or parents i 0)))) → path_of built i ≡ reverse (path_in trees (key_at order i))
    inner i w high deeper =
        let up = k.up i high w in
        let f = k.folder i high w in
        let p = get_or parents i 0 in
        let named : name_of built i ≡ f.path.name = name-is i w ∙ ap end_name f.path.is ∙ end-longer (path_in trees (key_at order p)) f.path.name in
        let long = path-inner (length order) (length trees) (tree_of built) (name_of built) (parent_of built) (from_of built) (to_of built) forest i high w in
        long ∙ ap (λ q. name_of built i ∷ path_of built q) (parent-is i w) ∙ ap (λ q. name_of built i ∷ q) (deeper up) ∙ ap (λ (n : List ℕ). n ∷ reverse (path_in trees (key_at order p))) named ∙ sym (turned (path_in trees (key_at order p)) f.path.name) ∙ sym (ap reverse f.path.is)

    root : (i : ℕ) → i < length trees → path_of built i ≡ reverse (path_in trees (key_at order i))
    root i low = path-root (length order) (length trees) (tree_of built) (name_of built) (parent_of built) (from_of built) (to_of built) i low ∙ sym (ap reverse (root-path i low))

    path-by : (f i : ℕ) → i ≤ f → i < length order → path_of built i ≡ reverse (path_in trees (key_at order i))
    path-by zero i a w =
        elim (cases_lt i (length trees)) [
          | inl low ↦ root i low
          | inr high ↦ inner i w high (λ less. absurd (omega arith))
        ]
    path-by (suc f) i a w =
        elim (cases_lt i (length trees)) [
          | inl low ↦ root i low
          | inr high ↦ inner i w high (λ less. path-by f (get_or parents i 0) (omega arith) (omega arith))
        ]

    pub path-is : (i : ℕ) → i < length order → path_of built i ≡ reverse (path_in trees (key_at order i))
    path-is i w = path-by i i (omega arith) w

    entry-is : (i : ℕ) → i < length order → IsEntry trees built i
    entry-is i w =
        let e = entry-there trees order sound o i w in
        let there : slice_get (entries_of trees (tree_of built i)) (place_of built i) ≡ Some e.0 =
        ap (λ t. slice_get (entries_of trees t) (place_of built i)) (tree-is i w) ∙ ap (λ p. slice_get (entries_of trees (key_at order i).tree) p) (place-is i w) ∙ e.1 in
        record {
          entry = e.0;
          there = there;
          path = path-is i w ∙ ap (λ x. reverse (option_map_or (λ (e : Entry). e.path) x [])) e.1;
          node = node-is i e.0 w e.1;
        }

    -- each entry has its node
    has-node : (t i : ℕ) (e : Entry) → slice_get (entries_of trees t) i ≡ Some e → (j : ℕ) × (j < length order) × (tree_of built j ≡ t) × (path_of built j ≡ reverse e.path) × (node_of built j ≡ e.node)
    has-node t zero e is =
        let found = tree-within trees t zero e is in
        let w : t < length order = omega (arith, o.enough) in
        let key = o.roots t found in
        let there : entry_of trees (key_at order t) ≡ Some e = ap (entry_of trees) key ∙ is in
        (t, w, tree-is t w ∙ ap (λ (x : Key). x.tree) key, path-is t w ∙ ap (λ x. reverse (option_map_or (λ (e : Entry). e.path) x [])) there, node-is t e w there)
    has-node t (suc p) e is =
        let all = o.whole t p e is in
        let w = all.2 in
        let there : entry_of trees (key_at order all.0) ≡ Some e = ap (entry_of trees) all.3 ∙ is in
        (all.0, w, tree-is all.0 w ∙ ap (λ (x : Key). x.tree) all.3, path-is all.0 w ∙ ap (λ x. reverse (option_map_or (λ (e : Entry). e.path) x [])) there, node-is all.0 e w there)

    maps : IsMapOf (length order) (length trees) (tree_of built) (name_of built) (parent_of built) (from_of built) (to_of built) (λ t p. map_of built t p) (node_of built)
    maps = subst (λ n. IsMapOf n (length trees) (tree_of built) (name_of built) (parent_of built) (from_of built) (to_of built) (λ t p. map_of built t p) (node_of built)) size
        (is_map (length (rows_upto trees order parents first (length order))) (length trees) (tree_of built) (name_of built) (parent_of built) (from_of built) (to_of built) (node_of built) is_sound)

    -- what entries say of a path is what the one of them that has it says
    found-by : (es : List Entry) (p : List (List ℕ)) (m : Option Node) → ((i : ℕ) (e : Entry) → slice_get es i ≡ Some e → reverse e.path ≡ p → m ≡ Some e.node) → (((i : ℕ) (e : Entry) → slice_get es i ≡ Some e → reverse e.path ≢ p) → m ≡ None) → m ≡ tree_map es p
    found-by [] p m here none = none (λ i e is same. cc)
    found-by (x ∷ es) p m here none = by (same_path (reverse x.path) p) refl (found-by es p m (λ i e is same. here (suc i) e is same))
      where
        by : (b : Bool) → same_path (reverse x.path) p ≡ b → ((((i : ℕ) (e : Entry) → slice_get es i ≡ Some e → reverse e.path ≢ p) → m ≡ None) → m ≡ tree_map es p) → m ≡ cond b (Some x.node) (tree_map es p)
        by true is deeper = here 0 x refl (same_path-is (reverse x.path) p is)
        by false is deeper = deeper (λ others. none (λ i e there same. each i e there same others))
          where
            each : (i : ℕ) (e : Entry) → slice_get (x ∷ es) i ≡ Some e → reverse e.path ≡ p → ((i : ℕ) (e : Entry) → slice_get es i ≡ Some e → reverse e.path ≢ p) → ⊥
            each zero e there same others =
                let one : x ≡ e = cc in
                let yes : same_path (reverse x.path) p ≡ true = subst (λ (q : List (List ℕ)). same_path (reverse x.path) q ≡ true) (ap (λ (y : Entry). reverse y.path) one ∙ same) (same_path-self (reverse x.path)) in
                cc
            each (suc i) e there same others = others i e there same

    map-is : (t : ℕ) (p : List (List ℕ)) → map_of built t p ≡ tree_map (entries_of trees t) p
    map-is t p =
        found-by (entries_of trees t) p (map_of built t p)
        (λ i e is same.
        let node = has-node t i e is in
        let here = maps.here node.0 node.1 in
        ap (λ u. map_of built u p) (sym node.2) ∙ ap (λ q. map_of built (tree_of built node.0) q) (sym (node.3 ∙ same)) ∙ here ∙ ap Some node.4)
        (λ others. maps.none t p (λ i w home is.
        let e = entry-is i w in
        others (place_of built i) e.entry (ap (λ u. slice_get (entries_of trees u) (place_of built i)) (sym home) ∙ e.there) (sym e.path ∙ is)))

    pub holds : Holds trees (record { roots = length trees; rows = rows_upto trees order parents first (length order) })
    holds = record {
      forest = is_sound;
      roots = refl;
      count = size ∙ o.size;
      entries = λ i w. entry-is i (omega (arith, size));
      maps = map-is;
    }
