-- What was made of trees, put in order: trees that a table can be made of.
use Rattle.std.proofs.Common.{◌≡◌, ◌≢◌, ◌∙◌, refl, sym, ap, subst, ℕ, zero, suc, ◌+◌, ◌<◌, ◌≤◌, List, [], ◌∷◌, ◌++◌, true, false, Ordering, nat_cmp, Some, All, Contains, length, get_or, slice_get, arith}
use Rattle.std.specs.List.{IsDistinct, sum_by}
use Rattle.std.specs.List.Sorted.{IsPermutation, IsSortedBy}
use Rattle.std.specs.Cmp.{IsTotalOrder}
use Rattle.std.specs.Cmp.Lexicographic.{slice_cmp}
use Rattle.std.specs.Ordering.{ordering_then, ordering_reverse, is_lt, is_eq, eq_by_cmp}
use Rattle.std.specs.declared.cmp.Ordering.TheVariants.{Less, Equal, Greater}
use Rattle.std.proofs.lemmas.Cmp.{on_total, nat_list_cmp_total, lists_total}
use Rattle.std.proofs.lemmas.List.{get_or_default}
use Rattle.std.proofs.lemmas.List.Elements.{All-nil, All-cons, All-head, All-push, All-tail, Contains-get_or}
use Rattle.std.proofs.lemmas.List.Sorted.{sorted_far, ranks_by, All-permutation, Contains-permutation, IsPermutation-sym, length_permutation, sum_by-IsPermutation}
use Rattle.std.proofs.lemmas.List.Sums.{sum_by-cons, sum_by_push}
use Rattle.std.proofs.lemmas.Map.Keys.{IsDistinct-IsPermutation, IsDistinct-from_apart, apart_from_distinct}
use Rattle.std.proofs.lemmas.Map.Lookups.{exact_bytes}
use Rattle.std.proofs.lemmas.Option.{slice_get-get_or, slice_get_within, get_or_from_slice_get}
use Rattle.tree_table.specs.declared.entries.Node.{Node}
use Rattle.tree_table.specs.declared.entries.Node.TheVariants.{Folder}
use Rattle.tree_table.specs.declared.entries.Entry.{Entry}
use Rattle.tree_table.specs.declared.entries.NamedTree.{NamedTree}
use Rattle.tree_table.specs.Trees.{IsTree, file_length, node_count, path_cmp, total, total_in}
use Rattle.tree_table.specs.Stored.{entry_at, path_at, root_entry}
use Rattle.path_names.specs.Parts.{holds_byte}
use Rattle.path_names.specs.Paths.{is_name}
use Rattle.std.specs.Prelude.{◌==◌, ◌&&◌, not, nat_le, codes}
use Rattle.std.specs.Str.{bytes_eq}
use Rattle.std.proofs.lemmas.Bool.Decides.{nat_tests}
use Rattle.mount_tree.specs.declared.forest.MadeTree.{MadeTree}
use Rattle.mount_tree.specs.declared.forest.Forest.{Forest}
use Rattle.mount_tree.specs.Growing.{IsGrown}
use Rattle.mount_tree.specs.Legal.{AreLegal, IsLegal, is_entry_name}
use Rattle.mount_tree.specs.Woods.{AreBuilt, IsMade, IsWood, made_bytes, made_nodes}
use Rattle.mount_tree.specs.Ordered.{AreOrdered}
use Rattle.mount_tree.proofs.GrowLemmas.{same-ends}
use Rattle.mount_tree.proofs.LegalLemmas.{both-true}

-- ---- paths that differ

same-paths : (p q : List (List ℕ)) → path_cmp p q ≡ Equal → p ≡ q
same-paths [] [] e = refl
same-paths [] (y ∷ ys) e = cc
same-paths (x ∷ xs) [] e = cc
same-paths (x ∷ xs) (y ∷ ys) e = by (slice_cmp nat_cmp x y) refl e (λ k. same-paths xs ys k)
  where
    by : (o : Ordering) → slice_cmp nat_cmp x y ≡ o → ordering_then o (path_cmp xs ys) ≡ Equal → (path_cmp xs ys ≡ Equal → xs ≡ ys) → x ∷ xs ≡ y ∷ ys
    by Less is e deeper = cc
    by Equal is e deeper = let first = exact_bytes x y is in let rest = deeper e in cc
    by Greater is e deeper = cc

abbrev entry_cmp : Entry → Entry → Ordering
entry_cmp a b = path_cmp a.path b.path

entries_total : IsTotalOrder entry_cmp
entries_total = on_total (λ (e : Entry). e.path) (lists_total nat_list_cmp_total)

differ : (a b : Entry) → a.path ≢ b.path → eq_by_cmp entry_cmp a b ≡ false
differ a b other = by (path_cmp a.path b.path) refl
  where
    by : (o : Ordering) → path_cmp a.path b.path ≡ o → is_eq o ≡ false
    by Less is = refl
    by Equal is = absurd (other (same-paths a.path b.path is))
    by Greater is = refl

flips : (a b : Entry) → eq_by_cmp entry_cmp a b ≡ eq_by_cmp entry_cmp b a
flips a b = ap is_eq (entries_total.antisymm a b) ∙ by (entry_cmp b a)
  where
    by : (o : Ordering) → is_eq (ordering_reverse o) ≡ is_eq o
    by Less = refl
    by Equal = refl
    by Greater = refl

strictly : (r s : Ordering) → r ≡ ordering_reverse s → is_lt s ≡ false → is_eq r ≡ false → r ≡ Less
strictly r Less back low apart = cc
strictly r Equal back low apart = let tied : is_eq r ≡ true = ap is_eq back in cc
strictly r Greater back low apart = back

not-first : (p : List (List ℕ)) → path_cmp p [] ≢ Less
not-first [] e = cc
not-first (x ∷ p) e = cc

never-empty : (p : List (List ℕ)) (x : List ℕ) → p ++ x ∷ [] ≢ []
never-empty [] x e = cc
never-empty (a ∷ p) x e = cc

same-entry : (e : Entry) (path : List (List ℕ)) (node : Node) → e.path ≡ path → e.node ≡ node → e ≡ record { path = path; node = node }
same-entry e path node p n = ap (λ q. record { path = q; node = e.node }) p ∙ ap (λ m. record { path = path; node = m }) n

short-name : (name : List ℕ) → is_entry_name name ≡ true → length name ≤ 255
short-name name good =
    let all = both-true (is_name name) (not (holds_byte 47 name)) good in
    let front = both-true ((not (length name == 0) && nat_le (length name) 255) && not (holds_byte 0 name)) (not (bytes_eq name (codes ".")) && not (bytes_eq name (codes ".."))) all.0 in
    let sized = both-true (not (length name == 0) && nat_le (length name) 255) (not (holds_byte 0 name)) front.0 in
    let few = both-true (not (length name == 0)) (nat_le (length name) 255) sized.0 in
    grind (arith, nat_tests, few.1)

module _ (made entries : List Entry) (grown : IsGrown made) (legal : AreLegal made) (same : IsPermutation made entries) (sorted : IsSortedBy (λ a b. is_lt (path_cmp a.path b.path)) entries) where
  all-differ : IsDistinct (eq_by_cmp entry_cmp) made
  all-differ =
      IsDistinct-from_apart (eq_by_cmp entry_cmp) made (λ i j d less within.
      differ (get_or made i d) (get_or made j d) (λ is.
      let a = get_or_default made i root_entry d (omega (arith, less, within)) in
      let b = get_or_default made j root_entry d within in
      let one : i ≡ j = grown.distinct i j (omega (arith, less, within)) within (ap (λ (e : Entry). e.path) a ∙ is ∙ sym (ap (λ (e : Entry). e.path) b)) in
      omega (arith, one, less)))

  in-order : (i j : ℕ) (d : Entry) → i < j → j < length entries → path_cmp (get_or entries i d).path (get_or entries j d).path ≡ Less
  in-order i j d less within =
      let low = sorted_far (λ a b. is_lt (entry_cmp a b)) (ranks_by (lists_total nat_list_cmp_total) (λ (e : Entry). e.path)) entries sorted i j d (omega (arith, less)) within in
      let apart = apart_from_distinct (eq_by_cmp entry_cmp) entries i j d (IsDistinct-IsPermutation (eq_by_cmp entry_cmp) flips made entries same all-differ) less within in
      strictly (entry_cmp (get_or entries i d) (get_or entries j d)) (entry_cmp (get_or entries j d) (get_or entries i d)) (entries_total.antisymm (get_or entries i d) (get_or entries j d)) low apart

  place-of : (e : Entry) → Contains made e → (j : ℕ) × (slice_get entries j ≡ Some e)
  place-of e there = let at = Contains-permutation made entries e same there in (at.0, slice_get-get_or entries at.0 e at.1 ∙ ap Some at.2)

  first : slice_get entries 0 ≡ Some root_entry
  first = by (place-of root_entry (0, grown.some, grown.root))
    where
      by : (j : ℕ) × (slice_get entries j ≡ Some root_entry) → slice_get entries 0 ≡ Some root_entry
      by (zero, is) = is
      by (suc j, is) =
          let within = slice_get_within entries (suc j) root_entry is in
          let less = in-order 0 (suc j) root_entry (omega arith) within in
          absurd (not-first (get_or entries 0 root_entry).path (subst (λ (e : Entry). path_cmp (get_or entries 0 root_entry).path e.path ≡ Less) (get_or_from_slice_get entries (suc j) root_entry root_entry is) less))

  folder-of : (e : Entry) (above : List (List ℕ)) (name : List ℕ) → Contains made e → e.path ≡ above ++ name ∷ [] → (j : ℕ) × (slice_get entries j ≡ Some (record { path = above; node = Folder }))
  folder-of e above name (n, within, is) path = by n within (get_or_default made n e root_entry within) is
    where
      by : (n : ℕ) → n < length made → get_or made n e ≡ get_or made n root_entry → get_or made n e ≡ e → (j : ℕ) × (slice_get entries j ≡ Some (record { path = above; node = Folder }))
      by zero w at is = absurd (never-empty above name (sym path ∙ ap (λ (x : Entry). x.path) (sym is ∙ at ∙ grown.root)))
      by (suc n) w at is =
          let home = grown.housed (suc n) (omega arith) w in
          let ends = same-ends (path_at made home.folder) above home.path.name name (sym home.path.is ∙ ap (λ (x : Entry). x.path) (sym at ∙ is) ∙ path) in
          place-of (record { path = above; node = Folder })
          (subst (λ (x : Entry). Contains made x) (same-entry (entry_at made home.folder) above Folder ends.0 home.node) (Contains-get_or made home.folder root_entry (omega (arith, home.before, w))))

  back : (i : ℕ) (e : Entry) → slice_get entries i ≡ Some e → Contains made e
  back i e is =
      let within = slice_get_within entries i e is in
      Contains-permutation entries made e (IsPermutation-sym made entries same) (i, within, get_or_from_slice_get entries i e e is)

  pub tree-legal : AreLegal entries
  tree-legal = All-permutation IsLegal made entries same legal

  pub is-tree : IsTree entries
  is-tree = record {
    root = first;
    ordered = λ i j a b less atA atB.
        let within = slice_get_within entries j b atB in
        let h = in-order i j a less within in
        subst (λ (x : Entry). path_cmp a.path x.path ≡ Less) (get_or_from_slice_get entries j b a atB)
        (subst (λ (x : Entry). path_cmp x.path (get_or entries j a).path ≡ Less) (get_or_from_slice_get entries i a a atA) h);
    folders = λ i e above name is path. folder-of e above name (back i e is) path;
    short = λ i e is.
        let names = (subst IsLegal (get_or_from_slice_get entries i e e is) (tree-legal i e (slice_get_within entries i e is))).names in
        λ k d w. short-name (get_or e.path k d) (names k d w);
  }

-- ---- all trees

total-is : (size : Node → ℕ) (es : List Entry) → total_in size es ≡ sum_by (λ e. size e.node) es
total-is size [] = refl
total-is size (e ∷ es) = omega (arith, total-is size es, sum_by-cons (λ (x : Entry). size x.node) e es)

total-kept : (size : Node → ℕ) (made entries : List Entry) → IsPermutation made entries → total_in size entries ≡ total_in size made
total-kept size made entries same = total-is size entries ∙ sum_by-IsPermutation (λ (e : Entry). size e.node) made entries same ∙ sym (total-is size made)

trees-are : (made : List MadeTree) (trees : List NamedTree) → All IsMade made → AreOrdered made trees → (t : ℕ) (tree : NamedTree) → slice_get trees t ≡ Some tree → IsTree tree.entries
trees-are [] [] all h t tree is = cc
trees-are [] (x ∷ xs) all h t tree is = absurd h
trees-are (m ∷ ms) [] all h t tree is = absurd h
trees-are (m ∷ ms) (x ∷ xs) all h zero tree is =
    let one = All-head IsMade m ms all in
    let here : x ≡ tree = cc in
    subst (λ (y : NamedTree). IsTree y.entries) here (is-tree m.nodes x.entries one.grown one.legal h.0.same h.0.ordered)
trees-are (m ∷ ms) (x ∷ xs) all h (suc t) tree is = trees-are ms xs (All-tail IsMade m ms all) h.1 t tree is

legal-are : (made : List MadeTree) (trees : List NamedTree) → All IsMade made → AreOrdered made trees → All (λ (tree : NamedTree). AreLegal tree.entries) trees
legal-are [] [] all h = All-nil (λ (tree : NamedTree). AreLegal tree.entries)
legal-are [] (x ∷ xs) all h = absurd h
legal-are (m ∷ ms) [] all h = absurd h
legal-are (m ∷ ms) (x ∷ xs) all h =
    let one = All-head IsMade m ms all in
    All-cons (λ (tree : NamedTree). AreLegal tree.entries) x xs (tree-legal m.nodes x.entries one.grown one.legal h.0.same h.0.ordered) (legal-are ms xs (All-tail IsMade m ms all) h.1)

count-is : (made : List MadeTree) (trees : List NamedTree) → AreOrdered made trees → node_count trees ≡ made_nodes made
count-is [] [] h = refl
count-is [] (x ∷ xs) h = absurd h
count-is (m ∷ ms) [] h = absurd h
count-is (m ∷ ms) (x ∷ xs) h =
    omega (arith, length_permutation m.nodes x.entries h.0.same, count-is ms xs h.1, sum_by-cons (λ (tree : MadeTree). length tree.nodes) m ms)

pub totals-are : (size : Node → ℕ) (made : List MadeTree) (trees : List NamedTree) → AreOrdered made trees → total size trees ≡ sum_by (λ (tree : MadeTree). total_in size tree.nodes) made
totals-are size [] [] h = refl
totals-are size [] (x ∷ xs) h = absurd h
totals-are size (m ∷ ms) [] h = absurd h
totals-are size (m ∷ ms) (x ∷ xs) h =
    omega (arith, total-kept size m.nodes x.entries h.0.same, totals-are size ms xs h.1, sum_by-cons (λ (tree : MadeTree). total_in size tree.nodes) m ms)

pub are-built : (forest : Forest) (trees : List NamedTree) → IsWood forest → AreOrdered forest.trees trees → AreBuilt trees
are-built forest trees wood h = record {
  sound = record { each = trees-are forest.trees trees wood.made h; nodes = omega (arith, count-is forest.trees trees h, wood.count, wood.few) };
  legal = legal-are forest.trees trees wood.made h;
  light = omega (arith, totals-are file_length forest.trees trees h, wood.held, wood.light);
}

-- ---- one more tree

pub no-wood : IsWood (record { nodes = 0; bytes = 0; trees = [] })
no-wood = record { made = All-nil IsMade; count = refl; few = omega arith; held = omega arith; light = omega arith }

pub wood-more : (before : Forest) (there : List Entry) (name : List ℕ) (bytes : ℕ) → IsWood before → IsGrown there → AreLegal there → before.nodes + length there ≤ 65536
    → made_bytes before.trees + total_in file_length there ≤ bytes → bytes ≤ 67108864
    → IsWood (record { nodes = before.nodes + length there; bytes = bytes; trees = before.trees ++ record { name = name; nodes = there } ∷ [] })
wood-more before there name bytes wood grown legal few held light =
    let one : MadeTree = record { name = name; nodes = there } in
    record {
      made = All-push IsMade before.trees one wood.made (record { grown = grown; legal = legal });
      count = sum_by_push (λ (tree : MadeTree). length tree.nodes) before.trees one ∙ ap (λ n. n + length there) wood.count;
      few = few;
      held = omega (arith, held, sum_by_push (λ (tree : MadeTree). total_in file_length tree.nodes) before.trees one);
      light = light;
    }
