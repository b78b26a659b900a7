-- The order of the nodes: each entry has its key, and the keys rise.
use Rattle.std.proofs.Common.{◌≡◌, ◌⊎◌, ℕ, zero, suc, ◌+◌, ◌-◌, ◌<◌, ◌≤◌, List, [], ◌∷◌, ◌++◌, Some, Ordering, true, false, nat_cmp, length, drop, get_or, slice_get, All, Contains, refl, sym, ap, subst, ◌∙◌, inl, inr, arith, length-append}
use Rattle.std.specs.List.{AllByRecursion, IsDistinct}
use Rattle.std.specs.List.Sorted.{IsPermutation, IsSorted}
use Rattle.std.specs.Cmp.{IsTotalOrder}
use Rattle.std.specs.Ordering.{ordering_then, ordering_reverse, is_lt, is_eq, eq_by_cmp, MatchOrdering}
use Rattle.std.specs.declared.cmp.Ordering.TheVariants.{Less, Equal, Greater}
use Rattle.std.proofs.lemmas.Bool.{cases_lt, lt-ltb}
use Rattle.std.proofs.lemmas.Cmp.{nat_cmp_total, on_total, then_total, ranked}
use Rattle.std.proofs.lemmas.List.{length_push, get_or_append_left, get_or-append_right, get_or_push, get_or_default}
use Rattle.std.proofs.lemmas.List.Elements.{All-nil, All-cons, All-append, All-weaker, All-get_or, Contains-append_left, Contains-append_right}
use Rattle.std.proofs.lemmas.List.Sorted.{sorted_far, ranks_by, All-permutation, Contains-permutation, length_permutation}
use Rattle.std.proofs.lemmas.Map.Keys.{IsDistinct-IsPermutation, apart_from_distinct}
use Rattle.std.proofs.lemmas.Option.{slice_get_within}
use Rattle.tree_table.specs.declared.entries.Entry.{Entry}
use Rattle.tree_table.specs.declared.entries.NamedTree.{NamedTree}
use Rattle.tree_table.specs.declared.order.Key.{Key}
use Rattle.tree_table.specs.Trees.{AreTrees, entries_of, node_count}
use Rattle.tree_table.specs.Orders.{root_key, roots_upto, keys_from, inner_from, key_at, IsIn, Before, IsOrder}

-- ---- the roots

pub length-roots : (n : ℕ) → length (roots_upto n) ≡ n
length-roots zero = refl
length-roots (suc n) = omega (arith, length_push (roots_upto n) (root_key n), length-roots n)

pub roots-at : (n i : ℕ) (d : Key) → i < n → get_or (roots_upto n) i d ≡ root_key i
roots-at zero i d w = absurd (omega arith)
roots-at (suc n) i d w =
    elim (cases_lt i n) [
      | inl low ↦ get_or_append_left (roots_upto n) (root_key n ∷ []) d i (omega (arith, length-roots n)) ∙ roots-at n i d low
      | inr high ↦
          let same : n ≡ i = omega arith in
          get_or_push (roots_upto n) (root_key n) d i (length-roots n ∙ same) ∙ ap root_key same
    ]

-- ---- the keys of one tree

pub length-keys : (tree place : ℕ) (es : List Entry) → length (keys_from tree place es) ≡ length es
length-keys tree place [] = refl
length-keys tree place (e ∷ es) = omega (arith, length-keys tree (suc place) es)

split-at : (place : ℕ) (all es : List Entry) (e : Entry) → drop place all ≡ e ∷ es → (slice_get all place ≡ Some e) × (drop (suc place) all ≡ es)
split-at zero [] es e is = cc
split-at zero (x ∷ all) es e is = let first : x ≡ e = cc in let rest : all ≡ es = cc in (ap Some first, rest)
split-at (suc place) [] es e is = cc
split-at (suc place) (x ∷ all) es e is = split-at place all es e is

abbrev OfTree : ℕ → List Entry → Key → Type 0
OfTree tree all key = (key.tree ≡ tree) × IsIn all key

in-keys : (all : List Entry) (tree place : ℕ) (es : List Entry) → 0 < place → drop place all ≡ es → All (OfTree tree all) (keys_from tree place es)
in-keys all tree place [] behind is = All-nil (OfTree tree all)
in-keys all tree place (e ∷ es) behind is =
    let both = split-at place all es e is in
    All-cons (OfTree tree all) _ _ (refl, record { entry = e; there = both.0; depth = refl; behind = behind }) (in-keys all tree (suc place) es (omega arith) both.1)

key-get : (tree place : ℕ) (es : List Entry) (i : ℕ) (e : Entry) (d : Key) → slice_get es i ≡ Some e → get_or (keys_from tree place es) i d ≡ record { depth = length e.path; tree = tree; place = place + i }
key-get tree place [] i e d is = cc
key-get tree place (x ∷ es) zero e d is =
    let same : x ≡ e = cc in
    let P : ℕ → Key = λ p. record { depth = length x.path; tree = tree; place = p } in
    let Q : Entry → Key = λ y. record { depth = length y.path; tree = tree; place = place + 0 } in
    let here : place ≡ place + 0 = omega arith in
    ap P here ∙ ap Q same
key-get tree place (x ∷ es) (suc i) e d is =
    let P : ℕ → Key = λ p. record { depth = length e.path; tree = tree; place = p } in
    let there : suc place + i ≡ place + suc i = omega arith in
    key-get tree (suc place) es i e d is ∙ ap P there

behind-first : (es : List Entry) (p : ℕ) → slice_get (drop 1 es) p ≡ slice_get es (suc p)
behind-first [] p = refl
behind-first (e ∷ es) p = refl

-- ---- the keys of all trees

abbrev OfTrees : ℕ → List NamedTree → Key → Type 0
OfTrees first ts key = (u : ℕ) × (key.tree ≡ first + u) × IsIn (entries_of ts u) key

in-inner : (first : ℕ) (ts : List NamedTree) → All (OfTrees first ts) (inner_from first ts)
in-inner first [] = All-nil (OfTrees first [])
in-inner first (t ∷ ts) =
    All-append (OfTrees first (t ∷ ts)) (keys_from first 1 (drop 1 t.entries)) (inner_from (suc first) ts)
    (All-weaker (OfTree first t.entries) (OfTrees first (t ∷ ts)) (λ k h. (0, omega (arith, h.0), h.1)) _ (in-keys t.entries first 1 (drop 1 t.entries) (omega arith) refl))
    (All-weaker (OfTrees (suc first) ts) (OfTrees first (t ∷ ts)) (λ k h. (suc h.0, omega (arith, h.1), h.2)) _ (in-inner (suc first) ts))

whole-inner : (first : ℕ) (ts : List NamedTree) (u p : ℕ) (e : Entry) → slice_get (entries_of ts u) (suc p) ≡ Some e → Contains (inner_from first ts) (record { depth = length e.path; tree = first + u; place = suc p })
whole-inner first [] u p e is = cc
whole-inner first (t ∷ ts) zero p e is =
    let there : slice_get (drop 1 t.entries) p ≡ Some e = behind-first t.entries p ∙ is in
    let P : ℕ → ℕ → Key = λ t p. record { depth = length e.path; tree = t; place = p } in
    let x : Key = P (first + 0) (suc p) in
    let within : p < length (keys_from first 1 (drop 1 t.entries)) = omega (arith, slice_get_within (drop 1 t.entries) p e there, length-keys first 1 (drop 1 t.entries)) in
    let one : 1 + p ≡ suc p = omega arith in
    let here : first ≡ first + 0 = omega arith in
    Contains-append_left (keys_from first 1 (drop 1 t.entries)) (inner_from (suc first) ts) x
    (p, within, key-get first 1 (drop 1 t.entries) p e x there ∙ ap (P first) one ∙ ap (λ t. P t (suc p)) here)
whole-inner first (t ∷ ts) (suc u) p e is =
    let P : ℕ → Key = λ t. record { depth = length e.path; tree = t; place = suc p } in
    let there : suc first + u ≡ first + suc u = omega arith in
    Contains-append_right (keys_from first 1 (drop 1 t.entries)) (inner_from (suc first) ts) (P (first + suc u))
    (subst (λ t. Contains (inner_from (suc first) ts) (P t)) there (whole-inner (suc first) ts u p e is))

some-first : (es : List Entry) → 0 < length es → length (drop 1 es) + 1 ≡ length es
some-first [] some = absurd (omega arith)
some-first (e ∷ es) some = omega arith

count-inner : (first : ℕ) (ts : List NamedTree) → ((u : ℕ) (t : NamedTree) → slice_get ts u ≡ Some t → 0 < length t.entries) → length (inner_from first ts) + length ts ≡ node_count ts
count-inner first [] some = refl
count-inner first (t ∷ ts) some =
    omega (
      arith,
      length-append (keys_from first 1 (drop 1 t.entries)) (inner_from (suc first) ts),
      length-keys first 1 (drop 1 t.entries),
      some-first t.entries (some 0 t refl),
      count-inner (suc first) ts (λ u t is. some (suc u) t is),
    )

-- ---- no key stands twice

abbrev Rising : Key → Key → Type 0
Rising a b = (a.tree < b.tree) ⊎ ((a.tree ≡ b.tree) × (a.place < b.place))

weaker : (P Q : Key → Type 0) → ((k : Key) → P k → Q k) → (ks : List Key) → AllByRecursion P ks → AllByRecursion Q ks
weaker P Q f [] h = tt
weaker P Q f (k ∷ ks) h = (f k h.0, weaker P Q f ks h.1)

both : (P : Key → Type 0) (ks ls : List Key) → AllByRecursion P ks → AllByRecursion P ls → AllByRecursion P (ks ++ ls)
both P [] ls h g = g
both P (k ∷ ks) ls h g = (h.0, both P ks ls h.1 g)

abbrev Rises : List Key → Type 0
Rises [] = Unit {0}
Rises (k ∷ ks) = AllByRecursion (Rising k) ks × Rises ks

rises-append : (ks ls : List Key) → Rises ks → Rises ls → AllByRecursion (λ k. AllByRecursion (Rising k) ls) ks → Rises (ks ++ ls)
rises-append [] ls h g across = g
rises-append (k ∷ ks) ls h g across = (both (Rising k) ks ls h.0 across.0, rises-append ks ls h.1 g across.1)

keys-behind : (tree place : ℕ) (es : List Entry) → AllByRecursion (λ k. (k.tree ≡ tree) × (place ≤ k.place)) (keys_from tree place es)
keys-behind tree place [] = tt
keys-behind tree place (e ∷ es) = (
  (refl, omega arith),
  weaker (λ k. (k.tree ≡ tree) × (suc place ≤ k.place)) (λ k. (k.tree ≡ tree) × (place ≤ k.place)) (λ k h. (h.0, omega (arith, h.1))) _ (keys-behind tree (suc place) es),
)

rises-keys : (tree place : ℕ) (es : List Entry) → Rises (keys_from tree place es)
rises-keys tree place [] = tt
rises-keys tree place (e ∷ es) = (
  weaker (λ k. (k.tree ≡ tree) × (suc place ≤ k.place)) (Rising (record { depth = length e.path; tree = tree; place = place })) (λ k h. inr (sym h.0, h.1)) _ (keys-behind tree (suc place) es),
  rises-keys tree (suc place) es,
)

inner-behind : (first : ℕ) (ts : List NamedTree) → AllByRecursion (λ k. first ≤ k.tree) (inner_from first ts)
inner-behind first [] = tt
inner-behind first (t ∷ ts) =
    both (λ k. first ≤ k.tree) (keys_from first 1 (drop 1 t.entries)) (inner_from (suc first) ts)
    (weaker (λ k. (k.tree ≡ first) × (1 ≤ k.place)) (λ k. first ≤ k.tree) (λ k h. omega (arith, h.0)) _ (keys-behind first 1 (drop 1 t.entries)))
    (weaker (λ k. suc first ≤ k.tree) (λ k. first ≤ k.tree) (λ k h. omega (arith, h)) _ (inner-behind (suc first) ts))

rises-inner : (first : ℕ) (ts : List NamedTree) → Rises (inner_from first ts)
rises-inner first [] = tt
rises-inner first (t ∷ ts) =
    let later = inner-behind (suc first) ts in
    rises-append (keys_from first 1 (drop 1 t.entries)) (inner_from (suc first) ts) (rises-keys first 1 (drop 1 t.entries)) (rises-inner (suc first) ts)
    (weaker (λ k. (k.tree ≡ first) × (1 ≤ k.place)) (λ k. AllByRecursion (Rising k) (inner_from (suc first) ts))
    (λ k h. weaker (λ l. suc first ≤ l.tree) (Rising k) (λ l g. inl (omega (arith, h.0, g))) _ later) _ (keys-behind first 1 (drop 1 t.entries)))

-- ---- sorted keys

abbrev pub key_cmp : Key → Key → Ordering
key_cmp a b = ordering_then (nat_cmp a.depth b.depth) (ordering_then (nat_cmp a.tree b.tree) (nat_cmp a.place b.place))

key_total : IsTotalOrder key_cmp
key_total = then_total (on_total (λ (k : Key). k.depth) nat_cmp_total) (then_total (on_total (λ (k : Key). k.tree) nat_cmp_total) (on_total (λ (k : Key). k.place) nat_cmp_total))

then-apart : (o p : Ordering) → is_eq p ≡ false → is_eq (ordering_then o p) ≡ false
then-apart Less p h = refl
then-apart Equal p h = h
then-apart Greater p h = refl

cmp-less : (x y : ℕ) → x < y → nat_cmp x y ≡ Less
cmp-less x y w = rw (lt-ltb _ _ w) refl

rising-apart : (a b : Key) → Rising a b → is_eq (key_cmp a b) ≡ false
rising-apart a b h =
    then-apart (nat_cmp a.depth b.depth) _ (elim h [
      | inl less ↦ rw (cmp-less a.tree b.tree less) refl
      | inr same ↦ then-apart (nat_cmp a.tree b.tree) _ (rw (cmp-less a.place b.place same.1) refl)
    ])

distinct : (ks : List Key) → Rises ks → IsDistinct (eq_by_cmp key_cmp) ks
unfolding IsDistinct
distinct [] h = tt
distinct (k ∷ ks) h = (weaker (Rising k) (λ l. eq_by_cmp key_cmp k l ≡ false) (λ l g. rising-apart k l g) ks h.0, distinct ks h.1)

flips : (x y : Key) → eq_by_cmp key_cmp x y ≡ eq_by_cmp key_cmp y x
flips x y = ap is_eq (key_total.antisymm x y) ∙ by (key_cmp y x)
  where
    by : (o : Ordering) → is_eq (ordering_reverse o) ≡ is_eq o
    by Less = refl
    by Equal = refl
    by Greater = refl

strictly : (r s : Ordering) → r ≡ ordering_reverse s → is_lt s ≡ false → is_eq r ≡ false → r ≡ Less
strictly r Less back low apart = cc
strictly r Equal back low apart = let tied : is_eq r ≡ true = ap is_eq back in cc
strictly r Greater back low apart = back

by-place : (a b : Key) → nat_cmp a.place b.place ≡ Less → a.place < b.place
by-place a b is = ranked a.place b.place Less (sym is)

before : (a b : Key) → key_cmp a b ≡ Less → Before a b
before a b is = by (nat_cmp a.depth b.depth) (nat_cmp a.tree b.tree) (nat_cmp a.place b.place) (ranked a.depth b.depth _ refl) (ranked a.tree b.tree _ refl) (ranked a.place b.place _ refl) is
  where
    by : (o p q : Ordering) → MatchOrdering o (a.depth < b.depth) (a.depth ≡ b.depth) (b.depth < a.depth) → MatchOrdering p (a.tree < b.tree) (a.tree ≡ b.tree) (b.tree < a.tree) → MatchOrdering q (a.place < b.place) (a.place ≡ b.place) (b.place < a.place) → ordering_then o (ordering_then p q) ≡ Less → Before a b
    by Less p q x y z e = inl x
    by Equal Less q x y z e = inr (x, inl y)
    by Equal Equal Less x y z e = inr (x, inr (y, z))
    by Equal Equal Equal x y z e = cc
    by Equal Equal Greater x y z e = cc
    by Equal Greater q x y z e = cc
    by Greater p q x y z e = cc

module _ (trees : List NamedTree) (sorted : List Key) (moved : IsPermutation (inner_from 0 trees) sorted) (up : IsSorted key_cmp sorted) where
  rising-sorted : (i j : ℕ) (d : Key) → i < j → j < length sorted → Before (get_or sorted i d) (get_or sorted j d)
  rising-sorted i j d less within =
      let low = sorted_far (λ x y. is_lt (key_cmp x y)) (ranks_by key_total (λ (k : Key). k)) sorted up i j d (omega arith) within in
      let apart = apart_from_distinct (eq_by_cmp key_cmp) sorted i j d (IsDistinct-IsPermutation (eq_by_cmp key_cmp) flips (inner_from 0 trees) sorted moved (distinct (inner_from 0 trees) (rises-inner 0 trees))) less within in
      before (get_or sorted i d) (get_or sorted j d) (strictly _ (key_cmp (get_or sorted j d) (get_or sorted i d)) (key_total.antisymm (get_or sorted i d) (get_or sorted j d)) low apart)

  order : List Key
  order = roots_upto (length trees) ++ sorted

  right : (i : ℕ) → length trees ≤ i → key_at (roots_upto (length trees) ++ sorted) i ≡ get_or sorted (i - length trees) (root_key 0)
  right i high = get_or-append_right (roots_upto (length trees)) sorted (length trees) i (root_key 0) (length-roots (length trees)) high

  long : length (roots_upto (length trees) ++ sorted) ≡ length trees + length sorted
  long = omega (arith, length-append (roots_upto (length trees)) sorted, length-roots (length trees))

  pub is_order : AreTrees trees → IsOrder trees (roots_upto (length trees) ++ sorted)
  is_order sound = record {
    size = omega (arith, long, length_permutation (inner_from 0 trees) sorted moved, count-inner 0 trees (λ u t is. omega (arith, slice_get_within t.entries 0 _ ((sound.each u t is).root))));
    enough = omega (arith, long);
    roots = λ i low. get_or_append_left (roots_upto (length trees)) sorted (root_key 0) i (omega (arith, length-roots (length trees))) ∙ roots-at (length trees) i (root_key 0) low;
    placed = λ i high within.
        let all = All-permutation (OfTrees 0 trees) (inner_from 0 trees) sorted moved (in-inner 0 trees) in
        let here = All-get_or (OfTrees 0 trees) sorted (i - length trees) (root_key 0) (omega (arith, long)) all in
        let home : here.0 ≡ (get_or sorted (i - length trees) (root_key 0)).tree = omega (arith, here.1) in
        subst (λ k. IsIn (entries_of trees k.tree) k) (sym (right i high)) (subst (λ u. IsIn (entries_of trees u) (get_or sorted (i - length trees) (root_key 0))) home here.2);
    rising = λ i j high less within.
        let h = rising-sorted (i - length trees) (j - length trees) (root_key 0) (omega arith) (omega (arith, long)) in
        subst (λ k. Before k (key_at (roots_upto (length trees) ++ sorted) j)) (sym (right i high)) (subst (Before (get_or sorted (i - length trees) (root_key 0))) (sym (right j (omega arith))) h);
    whole = λ t p e is.
        let P : ℕ → Key = λ t. record { depth = length e.path; tree = t; place = suc p } in
        let found = Contains-permutation (inner_from 0 trees) sorted (P (0 + t)) moved (whole-inner 0 trees t p e is) in
        let at : length trees + found.0 - length trees ≡ found.0 = omega arith in
        let same : 0 + t ≡ t = omega arith in (
          length trees + found.0,
          omega arith,
          omega (arith, found.1, long),
          right (length trees + found.0) (omega arith) ∙ ap (λ i. get_or sorted i (root_key 0)) at ∙ get_or_default sorted found.0 (root_key 0) (P (0 + t)) found.1 ∙ found.2 ∙ ap P same,
        );
  }
