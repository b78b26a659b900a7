-- Stored nodes, and the entries that they stand for.
use Rattle.std.proofs.Common.{◌≡◌, ℕ, zero, suc, ◌+◌, ◌<◌, ◌≤◌, List, [], ◌∷◌, ◌++◌, Some, Ordering, nat_cmp, length, take, map, slice_get, get_or, Contains, refl, sym, ap, subst, ◌∙◌, inl, inr, arith, length-append}
use Rattle.std.specs.List.Sorted.{IsPermutation, IsSortedBy}
use Rattle.std.specs.Ordering.{ordering_then, is_lt}
use Rattle.std.specs.Cmp.Lexicographic.{slice_cmp}
use Rattle.std.specs.declared.cmp.Ordering.TheVariants.{Less, Equal, Greater}
use Rattle.std.proofs.lemmas.Bool.{cases_lt, cases_eq}
use Rattle.std.proofs.lemmas.List.{take_more, take_all, get_or-map, length-map}
use Rattle.std.proofs.lemmas.List.Sorted.{IsPermutation-map, Contains-permutation}
use Rattle.tree_table.specs.declared.entries.Entry.{Entry}
use Rattle.tree_table.specs.declared.nodes.Kept.{Kept}
use Rattle.tree_table.specs.Trees.{path_cmp}
use Rattle.tree_table.specs.Stored.{IsKept, AreKept, entry_at, entry_in, entries_from, numbers_upto, path_at, root_entry}

-- ---- entries

pub length-from : (before : List Entry) (kept : List Kept) → length (entries_from before kept) ≡ length before + length kept
length-from before [] = omega arith
length-from before (k ∷ kept) =
    let deeper = length-from (before ++ entry_in before k.folder k.name k.node ∷ []) kept in
    let one = length-append before (entry_in before k.folder k.name k.node ∷ []) in
    omega (arith, deeper, one)

pub from-more : (before : List Entry) (kept : List Kept) (k : Kept)
    → entries_from before (kept ++ k ∷ []) ≡ entries_from before kept ++ entry_in (entries_from before kept) k.folder k.name k.node ∷ []
from-more before [] k = refl
from-more before (x ∷ kept) k = from-more (before ++ entry_in before x.folder x.name x.node ∷ []) kept k

pub first-from : (x : Entry) (before : List Entry) (kept : List Kept) → entry_at (entries_from (x ∷ before) kept) 0 ≡ x
first-from x before [] = refl
first-from x before (k ∷ kept) = first-from x (before ++ entry_in (x ∷ before) k.folder k.name k.node ∷ []) kept

get_or-front : (es : List Entry) (e d : Entry) (i : ℕ) → i < length es → get_or (es ++ e ∷ []) i d ≡ get_or es i d
get_or-front [] e d i w = absurd (omega arith)
get_or-front (x ∷ es) e d zero w = refl
get_or-front (x ∷ es) e d (suc i) w = get_or-front es e d i (omega arith)

get_or-end : (es : List Entry) (e d : Entry) (i : ℕ) → i ≡ length es → get_or (es ++ e ∷ []) i d ≡ e
get_or-end [] e d zero w = refl
get_or-end [] e d (suc i) w = absurd (omega arith)
get_or-end (x ∷ es) e d zero w = absurd (omega arith)
get_or-end (x ∷ es) e d (suc i) w = get_or-end es e d i (omega arith)

-- what was kept stays so
stays-kept : (entries : List Entry) (e : Entry) (number : ℕ) (k : Kept) → IsKept entries number k → IsKept (entries ++ e ∷ []) number k
stays-kept entries e number k h =
    let same = get_or-front entries e root_entry number h.inside in
    let above = get_or-front entries e root_entry k.folder (omega (arith, h.above, h.inside)) in
    record {
      inside = omega (arith, h.inside, length-append entries (e ∷ []));
      above = h.above;
      shallow = h.shallow;
      depth = h.depth ∙ ap (λ (x : Entry). length x.path) (sym same);
      is = same ∙ h.is ∙ ap (λ (x : Entry). record { path = x.path ++ k.name ∷ []; node = k.node }) (sym above);
    }

-- one more node in the folder of a number
new-kept : (entries : List Entry) (k : Kept) (number : ℕ) → number ≡ length entries → k.folder < number → k.depth ≡ length (path_at entries k.folder) + 1 → length (path_at entries k.folder) ≤ k.folder
    → IsKept (entries ++ entry_in entries k.folder k.name k.node ∷ []) number k
new-kept entries k number end above depth few =
    let e = entry_in entries k.folder k.name k.node in
    let same : entry_at (entries ++ e ∷ []) number ≡ e = get_or-end entries e root_entry number end in
    let front = get_or-front entries e root_entry k.folder (omega (arith, above, end)) in
    record {
      inside = omega (arith, length-append entries (e ∷ []));
      above = above;
      shallow = omega (arith, depth, few, above);
      depth = omega (arith, depth, ap (λ (x : Entry). length x.path) same, length-append (path_at entries k.folder) (k.name ∷ []));
      is = same ∙ ap (λ (x : Entry). record { path = x.path ++ k.name ∷ []; node = k.node }) (sym front);
    }

get-pushed : (kept : List Kept) (k x : Kept) (i : ℕ) → slice_get (kept ++ k ∷ []) i ≡ Some x → (i < length kept → slice_get kept i ≡ Some x) × (¬ (i < length kept) → (i ≡ length kept) × (k ≡ x))
get-pushed [] k x zero is = (λ w. absurd (omega arith), λ past. (refl, cc))
get-pushed [] k x (suc i) is = absurd (cc)
get-pushed (y ∷ kept) k x zero is = (λ w. is, λ past. absurd (past (omega arith)))
get-pushed (y ∷ kept) k x (suc i) is =
    let rest = get-pushed kept k x i is in
    (λ w. rest.0 (omega arith), λ past. let found = rest.1 (λ w. past (omega arith)) in (omega (arith, found.0), found.1))

pub pushed-kept : (entries : List Entry) (kept : List Kept) (k : Kept) → AreKept entries kept → length entries ≡ length kept + 1 → k.folder < length entries → k.depth ≡ length (path_at entries k.folder) + 1 → length (path_at entries k.folder) ≤ k.folder
    → AreKept (entries ++ entry_in entries k.folder k.name k.node ∷ []) (kept ++ k ∷ [])
pushed-kept entries kept k are size above depth few = λ i x is.
    elim (cases_lt i (length kept)) [
      | inl low ↦ stays-kept entries (entry_in entries k.folder k.name k.node) (suc i) x (are i x ((get-pushed kept k x i is).0 low))
      | inr high ↦
          let found = (get-pushed kept k x i is).1 (λ w. omega (arith, w, high)) in
          subst (IsKept (entries ++ entry_in entries k.folder k.name k.node ∷ []) (suc i)) found.1
          (new-kept entries k (suc i) (omega (arith, found.0, size)) (omega (arith, above, found.0, size)) depth few)
    ]

pub past-root : (entries : List Entry) (number : ℕ) → length entries ≤ number → entry_at entries number ≡ root_entry
past-root [] number h = refl
past-root (e ∷ entries) zero h = absurd (omega arith)
past-root (e ∷ entries) (suc number) h = past-root entries number (omega arith)

-- ---- an order

length-upto : (n : ℕ) → length (numbers_upto n) ≡ n
length-upto zero = refl
length-upto (suc n) = omega (arith, length-append (numbers_upto n) (n ∷ []), length-upto n)

get-number : (xs : List ℕ) (x d i : ℕ) → (i < length xs → get_or (xs ++ x ∷ []) i d ≡ get_or xs i d) × (i ≡ length xs → get_or (xs ++ x ∷ []) i d ≡ x)
get-number [] x d zero = (λ w. absurd (omega arith), λ is. refl)
get-number [] x d (suc i) = (λ w. absurd (omega arith), λ is. absurd (omega arith))
get-number (y ∷ xs) x d zero = (λ w. refl, λ is. absurd (omega arith))
get-number (y ∷ xs) x d (suc i) = let rest = get-number xs x d i in (λ w. rest.0 (omega arith), λ is. rest.1 (omega arith))

get-upto : (n i d : ℕ) → i < n → get_or (numbers_upto n) i d ≡ i
get-upto zero i d w = absurd (omega arith)
get-upto (suc n) i d w =
    let size = length-upto n in
    elim (cases_eq i n) [
      | inl same ↦ (get-number (numbers_upto n) n d i).1 (omega (arith, same, size)) ∙ sym same
      | inr other ↦ (get-number (numbers_upto n) n d i).0 (omega (arith, other, size, w)) ∙ get-upto n i d (omega (arith, other, w))
    ]

-- each number below n
pub contains-upto : (n number : ℕ) → number < n → Contains (numbers_upto n) number
contains-upto n number w = (number, omega (arith, w, length-upto n), get-upto n number number w)

map-more : (f : ℕ → Entry) (xs : List ℕ) (x : ℕ) → map f (xs ++ x ∷ []) ≡ map f xs ++ f x ∷ []
map-more f [] x = refl
map-more f (y ∷ xs) x = ap (λ es. f y ∷ es) (map-more f xs x)

numbered-upto : (entries : List Entry) (n : ℕ) → n ≤ length entries → map (entry_at entries) (numbers_upto n) ≡ take n entries
numbered-upto entries zero h = refl
numbered-upto entries (suc n) h =
    let more : n + 1 ≡ suc n = omega arith in
    map-more (entry_at entries) (numbers_upto n) n ∙ ap (λ es. es ++ entry_at entries n ∷ []) (numbered-upto entries n (omega arith))
    ∙ sym (take_more entries n root_entry (omega arith)) ∙ ap (λ k. take k entries) more

-- the entries as their numbers say
pub numbered : (entries : List Entry) → map (entry_at entries) (numbers_upto (length entries)) ≡ entries
numbered entries = numbered-upto entries (length entries) (omega arith) ∙ take_all (length entries) entries (omega arith)

pub permuted : (entries : List Entry) (order : List ℕ) → IsPermutation (numbers_upto (length entries)) order → IsPermutation entries (map (entry_at entries) order)
permuted entries order moved =
    subst (λ (es : List Entry). IsPermutation es (map (entry_at entries) order)) (numbered entries) (IsPermutation-map (entry_at entries) (numbers_upto (length entries)) order moved)

pub whole : (n : ℕ) (order : List ℕ) → IsPermutation (numbers_upto n) order → (number : ℕ) → number < n → Contains order number
whole n order moved number w = Contains-permutation (numbers_upto n) order number moved (contains-upto n number w)

pub sorted-entries : (entries : List Entry) (order : List ℕ) → IsSortedBy (λ i j. is_lt (path_cmp (path_at entries i) (path_at entries j))) order
    → IsSortedBy (λ a b. is_lt (path_cmp a.path b.path)) (map (entry_at entries) order)
sorted-entries entries order sorted = λ k d low high.
    let size = length-map order (entry_at entries) in
    let one = get_or-map (entry_at entries) order (k + 1) 0 d (omega (arith, high, size)) in
    let two = get_or-map (entry_at entries) order k 0 d (omega (arith, high, size)) in
    ap (λ (e : Entry). is_lt (path_cmp e.path (get_or (map (entry_at entries) order) k d).path)) one
    ∙ ap (λ (e : Entry). is_lt (path_cmp (path_at entries (get_or order (k + 1) 0)) e.path)) two
    ∙ sorted k 0 low (omega (arith, high, size))

-- the entry at a place of an order, the numbers of which begin with the root's
pub placed : (entries : List Entry) (order : List ℕ) (place : ℕ) → entry_at entries 0 ≡ root_entry → entry_at (map (entry_at entries) order) place ≡ entry_at entries (get_or order place 0)
placed entries [] place first = sym first
placed entries (n ∷ order) zero first = refl
placed entries (n ∷ order) (suc place) first = placed entries order place first

-- ---- how paths stand that have a name more

pub upper-longer : (p q : List (List ℕ)) (x : List ℕ) → length q ≤ length p → path_cmp (p ++ x ∷ []) q ≡ ordering_then (path_cmp p q) Greater
upper-longer [] [] x h = refl
upper-longer [] (b ∷ q) x h = absurd (omega (arith, h))
upper-longer (a ∷ p) [] x h = refl
upper-longer (a ∷ p) (b ∷ q) x h = by (slice_cmp nat_cmp a b) (upper-longer p q x (omega (arith, h)))
  where
    by : (o : Ordering) → path_cmp (p ++ x ∷ []) q ≡ ordering_then (path_cmp p q) Greater → ordering_then o (path_cmp (p ++ x ∷ []) q) ≡ ordering_then (ordering_then o (path_cmp p q)) Greater
    by Less deeper = refl
    by Equal deeper = deeper
    by Greater deeper = refl

pub lower-longer : (p q : List (List ℕ)) (y : List ℕ) → length p ≤ length q → path_cmp p (q ++ y ∷ []) ≡ ordering_then (path_cmp p q) Less
lower-longer [] [] y h = refl
lower-longer (a ∷ p) [] y h = absurd (omega (arith, h))
lower-longer [] (b ∷ q) y h = refl
lower-longer (a ∷ p) (b ∷ q) y h = by (slice_cmp nat_cmp a b) (lower-longer p q y (omega (arith, h)))
  where
    by : (o : Ordering) → path_cmp p (q ++ y ∷ []) ≡ ordering_then (path_cmp p q) Less → ordering_then o (path_cmp p (q ++ y ∷ [])) ≡ ordering_then (ordering_then o (path_cmp p q)) Less
    by Less deeper = refl
    by Equal deeper = deeper
    by Greater deeper = refl

alone : (o : Ordering) → ordering_then o Equal ≡ o
alone Less = refl
alone Equal = refl
alone Greater = refl

pub both-longer : (p q : List (List ℕ)) (x y : List ℕ) → length p ≡ length q → path_cmp (p ++ x ∷ []) (q ++ y ∷ []) ≡ ordering_then (path_cmp p q) (slice_cmp nat_cmp x y)
both-longer [] [] x y h = alone (slice_cmp nat_cmp x y)
both-longer (a ∷ p) [] x y h = absurd (omega (arith, h))
both-longer [] (b ∷ q) x y h = absurd (omega (arith, h))
both-longer (a ∷ p) (b ∷ q) x y h = by (slice_cmp nat_cmp a b) (both-longer p q x y (omega (arith, h)))
  where
    by : (o : Ordering) → path_cmp (p ++ x ∷ []) (q ++ y ∷ []) ≡ ordering_then (path_cmp p q) (slice_cmp nat_cmp x y)
        → ordering_then o (path_cmp (p ++ x ∷ []) (q ++ y ∷ [])) ≡ ordering_then (ordering_then o (path_cmp p q)) (slice_cmp nat_cmp x y)
    by Less deeper = refl
    by Equal deeper = deeper
    by Greater deeper = refl

pub at-place : (nodes : List Entry) (order slice : List ℕ) (entries : List Entry) (place number : ℕ) → map (entry_at nodes) order ≡ entries → entry_at nodes 0 ≡ root_entry → slice ≡ order → number ≡ get_or slice place 0
    → entry_at nodes number ≡ entry_at entries place
at-place nodes order slice entries place number view first same is =
    ap (entry_at nodes) (is ∙ ap (λ ns. get_or ns place 0) same) ∙ sym (placed nodes order place first) ∙ ap (λ es. entry_at es place) view
