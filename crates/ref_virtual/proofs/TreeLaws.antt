-- A table that holds trees agrees with the definition.
use Rattle.std.proofs.Common.{◌≡◌, ℕ, zero, suc, ◌+◌, ◌-◌, ◌<◌, ◌≤◌, Bool, true, false, List, [], ◌∷◌, ◌++◌, take, drop, map, reverse, slice_get, get_or, position, Option, Some, None, nat_cmp, refl, sym, ap, subst, ◌∙◌, inl, inr, ◌⊎◌, arith, unwrap_or}
use Rattle.std.proofs.lemmas.List.{reverse-append, reverse-reverse}
use Rattle.std.specs.Option.{option_map_or}
use Rattle.std.specs.Cmp.{IsTotalOrder}
use Rattle.std.specs.Cmp.Lexicographic.{slice_cmp}
use Rattle.std.specs.declared.cmp.Ordering.TheVariants.{Less, Equal}
use Rattle.std.proofs.Math.Path.{fun_ext}
use Rattle.std.proofs.lemmas.Bool.{cases_lt}
use Rattle.std.proofs.lemmas.Cmp.{nat_list_cmp_total, lists_total, tied_itself}
use Rattle.std.proofs.lemmas.Option.{slice_get_within, slice_get-get_or}
use Rattle.tree_table.specs.declared.entries.Entry.{Entry}
use Rattle.tree_table.specs.declared.entries.Node.{Node}
use Rattle.tree_table.specs.declared.entries.Node.TheVariants.{Folder}
use Rattle.tree_table.specs.declared.entries.NamedTree.{NamedTree}
use Rattle.tree_table.specs.Tables.{Forest, Row, Holds, HasChildren, count_of, tree_of, place_of, name_of, path_of, node_of, map_of}
use Rattle.tree_table.specs.Paths.{Path, resolve}
use Rattle.tree_table.specs.Trees.{AreTrees, IsTree, entries_of, path_cmp, same_path, tree_map}
use Rattle.tree_table.proofs.ForestLemmas.{same_path-is, same_path-self}
use Rattle.tree_table.proofs.LayLemmas.{last-less}
use Rattle.tree_table.proofs.RowLemmas.{Reads, reads}
use Rattle.reference_step.specs.Handles.{DirectoryEntry}
use Rattle.reference_step.specs.Nodes.{node_at, lead, type_of, place_at, child_of, child_by, children_at}
use Rattle.ref_answers.specs.Seen.{entry_of_row, entries_of_node}
use Rattle.ref_virtual.specs.Agreeing.{TablesAgree}
use Rattle.ref_virtual.proofs.PickLemmas.{first_place, all_picked, Rising, Picked, Whole, in_range, of_range, found_or_not}

-- ---- paths in order

path_total : IsTotalOrder path_cmp
path_total = lists_total nat_list_cmp_total

not_less : (p : Path) → path_cmp p p ≡ Less → ⊥
not_less p less = let tied : path_cmp p p ≡ Equal = tied_itself path_total p in let clash : Less ≡ Equal = sym less ∙ tied in cc

name_not_less : (x : List ℕ) → slice_cmp nat_cmp x x ≡ Less → ⊥
name_not_less x less = let tied : slice_cmp nat_cmp x x ≡ Equal = tied_itself nat_list_cmp_total x in let clash : Less ≡ Equal = sym less ∙ tied in cc

names_not_both : (x y : List ℕ) → slice_cmp nat_cmp x y ≡ Less → slice_cmp nat_cmp y x ≡ Less → ⊥
names_not_both x y one other = name_not_less x (nat_list_cmp_total.trans x y x one other)

-- ---- the entries of one tree

-- of a tree that has an entry, it is a tree
is_tree : (trees : List NamedTree) → AreTrees trees → (t i : ℕ) (e : Entry) → slice_get (entries_of trees t) i ≡ Some e → IsTree (entries_of trees t)
is_tree trees are t i e there = by (slice_get trees t) refl
  where
    by : (o : Option NamedTree) → slice_get trees t ≡ o → IsTree (entries_of trees t)
    by None is = let none : slice_get [] i ≡ Some e = ap (λ (o : Option NamedTree). slice_get (option_map_or (λ tree. tree.entries) o []) i) (sym is) ∙ there in cc
    by (Some tree) is = subst (λ (o : Option NamedTree). IsTree (option_map_or (λ tree. tree.entries) o [])) (sym is) (are.each t tree is)

module _ (es : List Entry) (tree : IsTree es) where
  -- no path stands twice
  one_place : (a b : ℕ) (x y : Entry) → slice_get es a ≡ Some x → slice_get es b ≡ Some y → x.path ≡ y.path → a ≡ b
  one_place a b x y s t same =
      elim (cases_lt a b) [
        | inl less ↦ absurd (not_less y.path (ap (λ p. path_cmp p y.path) (sym same) ∙ tree.ordered a b x y less s t))
        | inr most ↦ elim (cases_lt b a) [
          | inl less ↦ absurd (not_less y.path (ap (λ p. path_cmp y.path p) (sym same) ∙ tree.ordered b a y x less t s))
          | inr least ↦ omega (arith, most, least)
        ]
      ]

  same_reversed : (x y : Entry) → reverse x.path ≡ reverse y.path → x.path ≡ y.path
  same_reversed x y e = sym (reverse-reverse x.path) ∙ ap reverse e ∙ reverse-reverse y.path

  -- the place of an entry's path
  at_place : (i : ℕ) (e : Entry) (p : Path) → slice_get es i ≡ Some e → p ≡ reverse e.path → unwrap_or (position (λ x. same_path (reverse x.path) p) es) 0 ≡ i
  at_place i e p there is =
      let found : position (λ x. same_path (reverse x.path) p) es ≡ Some i =
      first_place (λ x. same_path (reverse x.path) p) es i e there (ap (λ q. same_path q p) (sym is) ∙ same_path-self p) (λ j y less s. other j y less s (same_path (reverse y.path) p) refl) in
      ap (λ o. unwrap_or o 0) found
    where
      other : (j : ℕ) (y : Entry) → j < i → slice_get es j ≡ Some y → (b : Bool) → same_path (reverse y.path) p ≡ b → b ≡ false
      other j y less s true same = let place : j ≡ i = one_place j i y e s there (same_reversed y e (same_path-is (reverse y.path) p same ∙ is)) in absurd (omega (arith, less, place))
      other j y less s false same = refl

-- a path that stands is mapped
module _ (x : Entry) (es : List Entry) (e : Entry) (p : Path) (is : reverse e.path ≡ p) (none : tree_map (x ∷ es) p ≡ None) where
  not_first : same_path (reverse x.path) p ≡ true → ⊥
  not_first same = let some : tree_map (x ∷ es) p ≡ Some x.node = rw same refl in let clash : Some x.node ≡ None = sym some ∙ none in cc

  then_rest : same_path (reverse x.path) p ≡ false → tree_map es p ≡ None
  then_rest same = let rest : tree_map (x ∷ es) p ≡ tree_map es p = rw same refl in sym rest ∙ none

  here_first : x ≡ e → same_path (reverse x.path) p ≡ true
  here_first here = ap (λ (y : Entry). same_path (reverse y.path) p) here ∙ ap (λ q. same_path q p) is ∙ same_path-self p

  by_test : (b : Bool) → same_path (reverse x.path) p ≡ b → (j : ℕ) → slice_get (x ∷ es) j ≡ Some e → ((j : ℕ) → slice_get es j ≡ Some e → tree_map es p ≡ None → ⊥) → ⊥
  by_test true same j there deeper = not_first same
  by_test false same zero there deeper = let here : x ≡ e = cc in not_first (here_first here)
  by_test false same (suc j) there deeper = deeper j there (then_rest same)

mapped : (es : List Entry) (k : ℕ) (e : Entry) (p : Path) → slice_get es k ≡ Some e → reverse e.path ≡ p → tree_map es p ≡ None → ⊥
mapped [] k e p there is none = cc
mapped (x ∷ es) k e p there is none = by_test x es e p is none (same_path (reverse x.path) p) refl k there (λ j s rest. mapped es j e p s is rest)

-- ---- a node of a table

module _ (trees : List NamedTree) (f : Forest) (are : AreTrees trees) (holds : Holds trees f) where
  abbrev blank : Row
  blank = record { tree = 0; place = 0; name = []; parent = 0; from = 0; to = 0; node = Folder }

  abbrev row_at : ℕ → Row
  row_at i = get_or f.rows i blank

  found_at : (i : ℕ) → i < count_of f → slice_get f.rows i ≡ Some (row_at i)
  found_at i w = slice_get-get_or f.rows i blank w

  reads_at : (i : ℕ) → i < count_of f → Reads f i (row_at i)
  reads_at i w = reads f holds.forest i (row_at i) (found_at i w)

  agrees_node : (i : ℕ) → i < count_of f → node_at trees (tree_of f i) (path_of f i) ≡ Some (node_of f i)
  agrees_node i w = let r = reads_at i w in sym (holds.maps (tree_of f i) (path_of f i)) ∙ r.look ∙ ap Some (sym r.node)

  agrees_leads : (i : ℕ) (text : List ℕ) (follow : Bool) → lead trees (tree_of f i) (path_of f i) text follow ≡ resolve (map_of f (tree_of f i)) (path_of f i) text follow
  agrees_leads i text follow =
      let same : tree_map (entries_of trees (tree_of f i)) ≡ map_of f (tree_of f i) = fun_ext (λ p. sym (holds.maps (tree_of f i) p)) in
      ap (λ (m : Path → Option Node). resolve m (path_of f i) text follow) same

  agrees_place : (i : ℕ) → i < count_of f → place_at trees (tree_of f i) (path_of f i) ≡ place_of f i
  agrees_place i w =
      let e = holds.entries i w in
      at_place (entries_of trees (tree_of f i)) (is_tree trees are (tree_of f i) (place_of f i) e.entry e.there) (place_of f i) e.entry (path_of f i) e.there e.path

  -- ---- what is in a folder

  module _ (i : ℕ) (w : i < count_of f) where
    abbrev row : Row
    row = row_at i

    abbrev es : List Entry
    es = entries_of trees (tree_of f i)

    abbrev path : Path
    path = path_of f i

    abbrev rows : List Row
    rows = take (row.to - row.from) (drop row.from f.rows)

    kids : HasChildren f i row.from row.to
    kids = (reads_at i w).children

    -- the node of a row of the range
    record IsChild (j : ℕ) (x : Row) : Type 0 where
      pub low : row.from ≤ j
      pub high : j < row.to
      pub within : j < count_of f
      pub is : row_at j ≡ x

    child_at : (a : ℕ) (x : Row) → slice_get rows a ≡ Some x → IsChild (row.from + a) x
    child_at a x s =
        let both = in_range f.rows row.from (row.to - row.from) a x s in
        let within : row.from + a < count_of f = slice_get_within f.rows (row.from + a) x both.1 in
        let same : Some (row_at (row.from + a)) ≡ Some x = sym (found_at (row.from + a) within) ∙ both.1 in
        record { low = omega arith; high = omega (arith, both.0); within = within; is = cc }

    -- the entry of a child
    record HasEntry (x : Row) : Type 0 where
      pub entry : Entry
      pub there : slice_get es x.place ≡ Some entry
      pub path : reverse entry.path ≡ x.name ∷ path
      pub node : entry.node ≡ x.node

    entry_for : (j : ℕ) (x : Row) → IsChild j x → HasEntry x
    entry_for j x c =
        let r : Reads f j x = subst (Reads f j) c.is (reads_at j c.within) in
        let e = holds.entries j c.within in
        let home : tree_of f j ≡ tree_of f i = kids.trees j c.low c.high in
        let below : path_of f j ≡ name_of f j ∷ path = kids.paths j c.low c.high in
        record {
          entry = e.entry;
          there = ap (λ p. slice_get es p) (sym r.place) ∙ ap (λ t. slice_get (entries_of trees t) (place_of f j)) (sym home) ∙ e.there;
          path = sym e.path ∙ below ∙ ap (λ n. n ∷ path) r.name;
          node = sym e.node ∙ r.node;
        }

    straight : (x : Row) (h : HasEntry x) → h.entry.path ≡ reverse path ++ x.name ∷ []
    straight x h = sym (reverse-reverse h.entry.path) ∙ ap reverse h.path ∙ reverse-append (x.name ∷ []) path

    tree_here : (x : Row) → HasEntry x → IsTree es
    tree_here x h = is_tree trees are (tree_of f i) x.place h.entry h.there

    rising : Rising (child_of path) (λ row. row.place) entry_of_row rows
    rising a b x y less s t =
        let cx = child_at a x s in
        let cy = child_at b y t in
        let hx = entry_for (row.from + a) x cx in
        let hy = entry_for (row.from + b) y cy in
        let rx : Reads f (row.from + a) x = subst (Reads f (row.from + a)) cx.is (reads_at (row.from + a) cx.within) in
        let ry : Reads f (row.from + b) y = subst (Reads f (row.from + b)) cy.is (reads_at (row.from + b) cy.within) in
        let named : slice_cmp nat_cmp x.name y.name ≡ Less =
        ap (λ n. slice_cmp nat_cmp n y.name) (sym rx.name) ∙ ap (λ n. slice_cmp nat_cmp (name_of f (row.from + a)) n) (sym ry.name) ∙ kids.sorted (row.from + a) (row.from + b) cx.low (omega (arith, less)) cy.high in
        elim (cases_lt x.place y.place) [
          | inl before ↦ before
          | inr most ↦ elim (cases_lt y.place x.place) [
            | inl behind ↦
                let turned : path_cmp hy.entry.path hx.entry.path ≡ Less = (tree_here x hx).ordered y.place x.place hy.entry hx.entry behind hy.there hx.there in
                let last : slice_cmp nat_cmp y.name x.name ≡ Less = last-less (reverse path) y.name x.name (ap (λ p. path_cmp p (reverse path ++ x.name ∷ [])) (sym (straight y hy)) ∙ ap (λ p. path_cmp hy.entry.path p) (sym (straight x hx)) ∙ turned) in
                absurd (names_not_both x.name y.name named last)
            | inr least ↦
                let level : x.place ≡ y.place = omega (arith, most, least) in
                let one : Some hx.entry ≡ Some hy.entry = sym hx.there ∙ ap (λ p. slice_get es p) level ∙ hy.there in
                let both : x.name ∷ path ≡ y.name ∷ path = sym hx.path ∙ ap (λ (o : Option Entry). option_map_or (λ (e : Entry). reverse e.path) o []) one ∙ hy.path in
                let same : x.name ≡ y.name = cc in
                absurd (name_not_less y.name (ap (λ n. slice_cmp nat_cmp n y.name) (sym same) ∙ named))
          ]
        ]

    child_is : (e : Entry) (name : List ℕ) → reverse e.path ≡ name ∷ path → child_of path e ≡ Some (record { ty = type_of (Some e.node); name = name })
    child_is e name is = ap (child_by e.node path) is ∙ rw (same_path-self path) refl

    picked : Picked (child_of path) (λ row. row.place) entry_of_row es 0 rows
    picked a x s =
        let h = entry_for (row.from + a) x (child_at a x s) in
        (x.place, h.entry, omega arith, h.there, child_is h.entry x.name h.path ∙ ap (λ (n : Node). Some (record { ty = type_of (Some n); name = x.name })) h.node)

    -- an entry that is in the folder has a name of its own there
    inner : (e : Entry) (d : DirectoryEntry) → child_of path e ≡ Some d → (name : List ℕ) × (reverse e.path ≡ name ∷ path)
    inner e d is = by (reverse e.path) refl
      where
        by : (p : Path) → reverse e.path ≡ p → (name : List ℕ) × (p ≡ name ∷ path)
        by [] same = let none : child_by e.node path [] ≡ Some d = ap (child_by e.node path) (sym same) ∙ is in cc
        by (name ∷ above) same = by_test (same_path above path) refl
          where
            by_test : (b : Bool) → same_path above path ≡ b → (n : List ℕ) × (name ∷ above ≡ n ∷ path)
            by_test true t = (name, ap (λ p. name ∷ p) (same_path-is above path t))
            by_test false t = let none : child_by e.node path (name ∷ above) ≡ None = rw t refl in let clash : None ≡ Some d = sym none ∙ ap (child_by e.node path) (sym same) ∙ is in cc

    whole : Whole (child_of path) (λ row. row.place) entry_of_row es 0 rows
    whole k e d there is = by (inner e d is)
      where
        by : (name : List ℕ) × (reverse e.path ≡ name ∷ path) → (a : ℕ) × (x : Row) × (slice_get rows a ≡ Some x) × (x.place ≡ 0 + k)
        by (name, own) = search_for (found_or_not (λ j. same_path (name_of f j ∷ []) (name ∷ [])) row.from (row.to - row.from))
          where
            search_for : ((j : ℕ) × (row.from ≤ j) × (j < row.from + (row.to - row.from)) × (same_path (name_of f j ∷ []) (name ∷ []) ≡ true)) ⊎ ((j : ℕ) → row.from ≤ j → j < row.from + (row.to - row.from) → same_path (name_of f j ∷ []) (name ∷ []) ≡ false) → (a : ℕ) × (x : Row) × (slice_get rows a ≡ Some x) × (x.place ≡ 0 + k)
            search_for (inl (j, low, high, same)) =
                let inside : j < row.to = omega (arith, high, low, kids.ordered) in
                let within : j < count_of f = omega (arith, inside, kids.inside) in
                let level : row.from + (j - row.from) ≡ j = omega (arith, low) in
                let c : IsChild j (row_at j) = record { low = low; high = inside; within = within; is = refl } in
                let h = entry_for j (row_at j) c in
                let s : slice_get rows (j - row.from) ≡ Some (row_at j) = of_range f.rows row.from (row.to - row.from) (j - row.from) (row_at j) (ap (λ n. slice_get f.rows n) level ∙ found_at j within) (omega (arith, low, inside)) in
                let r = reads_at j within in
                let alike : name_of f j ∷ [] ≡ name ∷ [] = same_path-is (name_of f j ∷ []) (name ∷ []) same in
                let named : name_of f j ≡ name = cc in
                let paths : reverse h.entry.path ≡ reverse e.path = h.path ∙ ap (λ n. n ∷ path) (sym r.name ∙ named) ∙ sym own in
                let place : (row_at j).place ≡ k = one_place es (tree_here (row_at j) h) (row_at j).place k h.entry e h.there there (same_reversed es (tree_here (row_at j) h) h.entry e paths) in
                (j - row.from, row_at j, s, omega (arith, place))
            search_for (inr none) =
                let missing : map_of f (tree_of f i) (name ∷ path) ≡ None = kids.whole name (λ j low high same. let no_ = none j low (omega (arith, low, high)) in let yes_ : same_path (name_of f j ∷ []) (name ∷ []) ≡ true = ap (λ n. same_path (n ∷ []) (name ∷ [])) same ∙ same_path-self (name ∷ []) in let clash : true ≡ false = sym yes_ ∙ no_ in cc) in
                absurd (mapped es k e (name ∷ path) there own (sym (holds.maps (tree_of f i) (name ∷ path)) ∙ missing))

    agrees_children : children_at trees (tree_of f i) path ≡ entries_of_node f i
    agrees_children =
        all_picked (child_of path) (λ row. row.place) entry_of_row es 0 rows rising picked whole
        ∙ ap (λ (o : Option Row). option_map_or (λ (x : Row). map entry_of_row (take (x.to - x.from) (drop x.from f.rows))) o []) (sym (found_at i w))

pub tables_agree : TablesAgree
tables_agree trees f are holds i w = record {
  node = agrees_node trees f are holds i w;
  leads = agrees_leads trees f are holds i;
  place = agrees_place trees f are holds i w;
  children = agrees_children trees f are holds i w;
  alone = (reads_at trees f are holds i w).alone;
}
