-- Paths of legal names, and the limits of trees with one more entry.
use Rattle.std.proofs.Common.{◌≡◌, ◌∙◌, refl, sym, ap, subst, ℕ, ◌+◌, ◌≤◌, List, [], ◌∷◌, ◌++◌, Bool, true, false, not, ◌&&◌, ◌||◌, cond, All, length, inl, inr, arith, true≢false, length-append}
use Rattle.std.specs.Prelude.{◌==◌, Option, if◌then◌else◌}
use Rattle.std.specs.List.{list_all}
use Rattle.std.proofs.lemmas.List.Folds.{list_all-append}
use Rattle.std.proofs.lemmas.List.Elements.{All-nil, All-cons, All-head, All-tail, All-push}
use Rattle.std.proofs.lemmas.List.Sums.{AllPass-from_list_all}
use Rattle.tree_table.specs.declared.entries.Node.{Node}
use Rattle.tree_table.specs.declared.entries.Node.TheVariants.{Folder, File, Link}
use Rattle.tree_table.specs.declared.entries.Entry.{Entry}
use Rattle.tree_table.specs.Trees.{file_length, total_in}
use Rattle.tree_table.specs.Stored.{root_entry}
use Rattle.path_names.specs.Parts.{holds_byte, in_first}
use Rattle.path_names.specs.Paths.{is_name, is_path, names_of}
use Rattle.mount_tree.specs.Growing.{is_free, with_folders, with_node}
use Rattle.mount_tree.specs.Building.{below}
use Rattle.mount_tree.specs.Spots.{IsSpot}
use Rattle.mount_tree.specs.Legal.{AreLegal, AreNames, IsFolderPath, IsLegal, IsOther, IsPlace, KeepsNode, is_entry_name}
use Rattle.mount_tree.proofs.PathLemmas.{some_parts}

-- ---- names

pub both-true : (a b : Bool) → (a && b) ≡ true → (a ≡ true) × (b ≡ true)
both-true true true h = (refl, refl)
both-true true false h = absurd (true≢false (sym h))
both-true false b h = absurd (true≢false (sym h))

none-false : (a b : Bool) → (a || b) ≡ false → (a ≡ false) × (b ≡ false)
none-false true b h = absurd (true≢false h)
none-false false b h = (refl, h)

not-false : (b : Bool) → not b ≡ true → b ≡ false
not-false true h = absurd (true≢false (sym h))
not-false false h = refl

abbrev Apart : List ℕ → Type 0
Apart name = holds_byte 47 name ≡ false

-- no name of a path has a `/`
names-apart : (text : List ℕ) → All Apart (names_of text)
names-apart [] = All-cons Apart [] [] refl (All-nil Apart)
names-apart (b ∷ text) = by (b == 47) refl (names_of text) (some_parts 47 text) (names-apart text)
  where
    by : (c : Bool) → (b == 47) ≡ c → (parts : List (List ℕ)) → 1 ≤ length parts → All Apart parts → All Apart (if c then [] ∷ parts else in_first b parts)
    by true is parts some h = All-cons Apart [] parts refl h
    by false is [] some h = absurd (omega (arith, some))
    by false is (part ∷ parts) some h = All-cons Apart (b ∷ part) parts (rw (is) (All-head Apart part parts h)) (All-tail Apart part parts h)

pub entry-names : (names : List (List ℕ)) → All (λ n. is_name n ≡ true) names → All Apart names → AreNames names
entry-names names good apart = λ k d w. rw (good k d w, apart k d w) refl

pub path-names : (path : List ℕ) → is_path path ≡ true → AreNames (names_of path)
path-names path legal = entry-names (names_of path) (AllPass-from_list_all is_name (names_of path) legal) (names-apart path)

-- a text without `/` is one name
one-name : (name : List ℕ) → holds_byte 47 name ≡ false → names_of name ≡ name ∷ []
one-name [] h = refl
one-name (b ∷ name) h = let parts = none-false (b == 47) (holds_byte 47 name) h in rw (parts.0, one-name name parts.1) refl

first-of : (b : ℕ) (xs ys : List (List ℕ)) → 1 ≤ length xs → in_first b (xs ++ ys) ≡ in_first b xs ++ ys
first-of b [] ys some = absurd (omega (arith, some))
first-of b (x ∷ xs) ys some = refl

-- the names of a path in a folder are the folder's names, and then those of the rest
names-joined : (p q : List ℕ) → names_of (p ++ 47 ∷ q) ≡ names_of p ++ names_of q
names-joined [] q = refl
names-joined (b ∷ p) q = by (b == 47) (names-joined p q)
  where
    by : (c : Bool) → names_of (p ++ 47 ∷ q) ≡ names_of p ++ names_of q
        → (if c then [] ∷ names_of (p ++ 47 ∷ q) else in_first b (names_of (p ++ 47 ∷ q))) ≡ (if c then [] ∷ names_of p else in_first b (names_of p)) ++ names_of q
    by true is = ap (λ ns. [] ∷ ns) is
    by false is = ap (in_first b) is ∙ first-of b (names_of p) (names_of q) (some_parts 47 p)

name-path : (name : List ℕ) → is_entry_name name ≡ true → is_path name ≡ true
name-path name good =
    let parts = both-true (is_name name) (not (holds_byte 47 name)) good in
    rw (one-name name (not-false (holds_byte 47 name) parts.1)) (rw (parts.0) refl)

pub below-path : (path name : List ℕ) → IsFolderPath path → is_entry_name name ≡ true → is_path (below path name) ≡ true
below-path [] name at good = name-path name good
below-path (b ∷ path) name (inl none) good = cc
below-path (b ∷ path) name (inr legal) good =
    ap (λ ns. list_all is_name ns) (names-joined (b ∷ path) name) ∙ list_all-append is_name (names_of (b ∷ path)) (names_of name) ∙ rw (legal, name-path name good) refl

-- ---- one more entry

pub added : (P : Entry → Type 0) (there : List Entry) (above : List (List ℕ)) (name : List ℕ) (node : Node) → All P there → P (record { path = above ++ name ∷ []; node = node })
    → All P (with_node there above name node)
added P there above name node h new = by (is_free there above name)
  where
    by : (b : Bool) → All P (cond b (there ++ record { path = above ++ name ∷ []; node = node } ∷ []) there)
    by true = All-push P there (record { path = above ++ name ∷ []; node = node }) h new
    by false = h

pub root-legal : AreLegal (root_entry ∷ [])
root-legal = All-cons IsLegal root_entry [] (record { names = All-nil (λ name. is_entry_name name ≡ true); few = omega arith; kept = tt }) (All-nil IsLegal)

pub legal-folders : (there : List Entry) (above names : List (List ℕ)) → AreLegal there → AreNames above → AreNames names → length above + length names ≤ 64
    → AreLegal (with_folders there above names)
legal-folders there above [] h up down few = h
legal-folders there above (name ∷ []) h up down few = h
legal-folders there above (name ∷ next ∷ names) h up down few =
    let deeper : AreNames (above ++ name ∷ []) = All-push (λ n. is_entry_name n ≡ true) above name up (All-head (λ n. is_entry_name n ≡ true) name (next ∷ names) down) in
    let long = length-append above (name ∷ []) in
    legal-folders (with_node there above name Folder) (above ++ name ∷ []) (next ∷ names)
    (added IsLegal there above name Folder h (record { names = deeper; few = omega (arith, long, few); kept = tt })) deeper
    (All-tail (λ n. is_entry_name n ≡ true) name (next ∷ names) down) (omega (arith, long, few))

-- the entry at a path that was reached
pub spot-legal : (there : List Entry) (path : List ℕ) (folder : Option ℕ) (name : List ℕ) (s : IsSpot there path folder name) (node : Node) → IsPlace path → KeepsNode node
    → IsLegal (record { path = s.above ++ name ∷ []; node = node })
spot-legal there path folder name s node place kept = record {
  names = subst AreNames s.names (path-names path place.legal);
  few = omega (arith, ap length s.names, place.few);
  kept = kept;
}

pub other-kept : (node : Node) → IsOther node → KeepsNode node
other-kept Folder h = tt
other-kept (File bytes) h = absurd h
other-kept (Link target) h = h

pub other-empty : (node : Node) → IsOther node → file_length node ≡ 0
other-empty Folder h = refl
other-empty (File bytes) h = absurd h
other-empty (Link target) h = refl

-- ---- what files have together

total-more : (size : Node → ℕ) (es : List Entry) (e : Entry) → total_in size (es ++ e ∷ []) ≡ total_in size es + size e.node
total-more size [] e = omega arith
total-more size (x ∷ es) e = omega (arith, total-more size es e)

pub total-node : (size : Node → ℕ) (there : List Entry) (above : List (List ℕ)) (name : List ℕ) (node : Node) → total_in size (with_node there above name node) ≤ total_in size there + size node
total-node size there above name node = by (is_free there above name)
  where
    by : (b : Bool) → total_in size (cond b (there ++ record { path = above ++ name ∷ []; node = node } ∷ []) there) ≤ total_in size there + size node
    by true = omega (arith, total-more size there (record { path = above ++ name ∷ []; node = node }))
    by false = omega arith

pub total-folders : (there : List Entry) (above names : List (List ℕ)) → total_in file_length (with_folders there above names) ≤ total_in file_length there
total-folders there above [] = omega arith
total-folders there above (name ∷ []) = omega arith
total-folders there above (name ∷ next ∷ names) =
    omega (arith, total-folders (with_node there above name Folder) (above ++ name ∷ []) (next ∷ names), total-node file_length there above name Folder)

-- ---- lists that are gone through

pub first-holds : {A : Type 0} (P : A → Type 0) (rest more : List A) (x : A) → rest ≡ x ∷ more → All P rest → P x
first-holds P rest more x is h = All-head P x more (subst (All P) is h)

pub rest-holds : {A : Type 0} (P : A → Type 0) (rest more : List A) (x : A) → rest ≡ x ∷ more → All P rest → All P more
rest-holds P rest more x is h = All-tail P x more (subst (All P) is h)
