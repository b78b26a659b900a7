-- The entries of a map of paths: what is next to a path tells what it clashes with.
use Rattle.std.proofs.Common.{◌≡◌, ◌∙◌, refl, ap, sym, subst, ℕ, List, [], ◌∷◌, ◌++◌, Bool, true, false, not, cond, map, arith, nat_cmp}
use Rattle.std.specs.Prelude.{◌&&◌, ◌||◌, Vec}
use Rattle.std.specs.List.{list_any, filter, AllByRecursion}
use Rattle.std.specs.List.Sorted.{IsStrictlySortedBy}
use Rattle.std.specs.Map.{keys_of}
use Rattle.std.specs.BTreeMap.{insert_entry}
use Rattle.std.specs.BTreeMap.Range.{range_contains}
use Rattle.std.specs.Cmp.Lexicographic.{slice_cmp}
use Rattle.std.specs.Ordering.{is_eq, match_ordering}
use Rattle.std.specs.declared.cmp.Ordering.{Ordering}
use Rattle.std.specs.declared.cmp.Ordering.TheVariants.{Less, Equal, Greater}
use Rattle.std.specs.declared.ops.Bound.TheVariants.{Included, Unbounded}
use Rattle.std.specs.declared.alloc.Global.{Global}
use Rattle.std.proofs.lemmas.Bool.{false≢true}
use Rattle.std.proofs.lemmas.Map.Text.{is_eq-slice_cmp}
use Rattle.std.proofs.lemmas.Slice.Eq.{bytes_eq-Decides}
use Rattle.std.proofs.lemmas.Bool.Decides.{nat_tests}
use Rattle.path_names.specs.Paths.{Placed, covers, clashes, is_clear}
use Rattle.policy_text.specs.PathKeys.{placed_of, unrank}
use Rattle.policy_text.proofs.PathOrder.{within, covers-unrank, upto, before, is_before, is_upto, not_before, before_upto, within_upto, within_between}

abbrev pub Entry : Type 0
Entry = Vec ℕ Global × Bool

abbrev pub order : Vec ℕ Global → Vec ℕ Global → Ordering
order a b = slice_cmp nat_cmp a.items b.items

-- ---- tests of entries

pub any-placed : (f : Placed → Bool) (g : Entry → Bool) → ((e : Entry) → f (placed_of e) ≡ g e)
    → (es : List Entry) → list_any f (map placed_of es) ≡ list_any g es
any-placed f g same [] = refl
any-placed f g same (e ∷ es) = ap (λ b. b || list_any f (map placed_of es)) (same e) ∙ ap (λ b. g e || b) (any-placed f g same es)

pub none_any : (f : Entry → Bool) (es : List Entry) → AllByRecursion (λ e. f e ≡ false) es → list_any f es ≡ false
none_any f [] h = refl
none_any f (e ∷ es) h = ap (λ b. b || list_any f es) h.0 ∙ none_any f es h.1

-- the entries ascend
abbrev pub Ascends : List Entry → Type 0
Ascends [] = Unit {0}
Ascends (e ∷ es) = AllByRecursion (λ (f : Entry). before e.0.items f.0.items ≡ true) es × Ascends es

is_less : (o : Ordering) (a b : Vec ℕ Global) → order a b ≡ Less → before a.items b.items ≡ true
is_less o a b h = sym (is_before a.items b.items Less (sym h))

all_behind : (e : Entry) (es : List Entry) → AllByRecursion (λ y. order e.0 y ≡ Less) (keys_of es)
    → AllByRecursion (λ (f : Entry). before e.0.items f.0.items ≡ true) es
all_behind e [] h = tt
all_behind e (f ∷ es) h = (is_less Less e.0 f.0 h.0, all_behind e es h.1)

pub ascends : (es : List Entry) → IsStrictlySortedBy order (keys_of es) → Ascends es
unfolding IsStrictlySortedBy
ascends [] h = tt
ascends (e ∷ es) h = (all_behind e es h.0, ascends es h.1)

-- ---- the first entry from a key on

abbrev pub first_within : List ℕ → List Entry → Bool
first_within k [] = false
first_within k (e ∷ es) = within k e.0.items

-- after an entry that is from the key on, and does not lie in it, nothing lies in it
none_behind : (k : List ℕ) (e : Entry) (es : List Entry) → upto k e.0.items ≡ true → within k e.0.items ≡ false
    → AllByRecursion (λ (f : Entry). before e.0.items f.0.items ≡ true) es → list_any (λ (f : Entry). within k f.0.items) es ≡ false
none_behind k e [] from out behind = refl
none_behind k e (f ∷ es) from out behind =
    let below = before_upto e.0.items f.0.items behind.0 in
    let here = within_between k e.0.items f.0.items from below in
    grind (arith, nat_tests, here, none_behind k e es from out behind.1)

first_step : (k : List ℕ) (e : Entry) (es rest : List Entry) (u w : Bool) → upto k e.0.items ≡ u → within k e.0.items ≡ w
    → AllByRecursion (λ (f : Entry). before e.0.items f.0.items ≡ true) es
    → list_any (λ (f : Entry). within k f.0.items) es ≡ first_within k rest
    → (within k e.0.items || list_any (λ (f : Entry). within k f.0.items) es) ≡ first_within k (cond u (e ∷ rest) rest)
first_step k e es rest true true p q behind more = rw q refl
first_step k e es rest true false p q behind more = rw (q, none_behind k e es p q behind) refl
first_step k e es rest false true p q behind more = absurd (false≢true (sym p ∙ within_upto k e.0.items q))
first_step k e es rest false false p q behind more = rw q more

pub within_first : (k : List ℕ) (from : Entry → Bool) → ((e : Entry) → from e ≡ upto k e.0.items)
    → (es : List Entry) → Ascends es → list_any (λ (e : Entry). within k e.0.items) es ≡ first_within k (filter from es)
within_first k from is [] up = refl
within_first k from is (e ∷ es) up =
    first_step k e es (filter from es) (from e) (within k e.0.items) (sym (is e)) refl up.0 (within_first k from is es up.1)

-- ---- the last entry up to a key

abbrev pub in_leaf : List ℕ → Entry → Bool
in_leaf k e = e.1 && within e.0.items k

-- no two entries clash
abbrev pub Clear : List Entry → Type 0
Clear [] = Unit {0}
Clear (e ∷ es) = AllByRecursion (λ (f : Entry). clashes (placed_of e) (placed_of f) ≡ false) es × Clear es

none_clashes : (p : Placed) (es : List Entry) → list_any (clashes p) (map placed_of es) ≡ false
    → AllByRecursion (λ (f : Entry). clashes p (placed_of f) ≡ false) es
none_clashes p [] h = tt
none_clashes p (e ∷ es) h =
    let here : clashes p (placed_of e) ≡ false = grind (arith, nat_tests) in
    let more : list_any (clashes p) (map placed_of es) ≡ false = grind (arith, nat_tests) in
    (here, none_clashes p es more)

pub clear_parts : (es : List Entry) → is_clear (map placed_of es) ≡ true → Clear es
clear_parts [] h = tt
clear_parts (e ∷ es) h =
    let here : list_any (clashes (placed_of e)) (map placed_of es) ≡ false = grind (arith, nat_tests) in
    let more : is_clear (map placed_of es) ≡ true = grind (arith, nat_tests) in
    (none_clashes (placed_of e) es here, clear_parts es more)

-- what holds of every entry holds of the last one that passes a test
last_step : (P : Entry → Type 0) (t : Entry → Bool) (e : Entry) (rest ys : List Entry) (x : Entry) (b : Bool) → t e ≡ b → P e
    → ((zs : List Entry) → rest ≡ zs ++ x ∷ [] → P x × (t x ≡ true))
    → cond b (e ∷ rest) rest ≡ ys ++ x ∷ [] → P x × (t x ≡ true)
last_step P t e rest ys x false passes here more h = more ys h
last_step P t e rest [] x true passes here more h =
    let same : e ≡ x = cc in (subst P same here, subst (λ (z : Entry). t z ≡ true) same passes)
last_step P t e rest (y ∷ ys) x true passes here more h = more ys (cc)

all_last : (P : Entry → Type 0) (t : Entry → Bool) (es ys : List Entry) (x : Entry) → filter t es ≡ ys ++ x ∷ []
    → AllByRecursion P es → P x × (t x ≡ true)
all_last P t [] [] x h all = absurd (cc)
all_last P t [] (y ∷ ys) x h all = absurd (cc)
all_last P t (e ∷ es) ys x h all = last_step P t e (filter t es) ys x (t e) refl all.0 (λ zs k. all_last P t es zs x k all.1) h

not_in_leaf : (k : List ℕ) (e : Entry) → upto e.0.items k ≡ false → in_leaf k e ≡ false
not_in_leaf k e h = let behind = within_upto e.0.items k in grind (arith, nat_tests, behind)

nothing_step : (k : List ℕ) (e : Entry) (es rest : List Entry) (b : Bool) → upto e.0.items k ≡ b → (rest ≡ [] → list_any (in_leaf k) es ≡ false)
    → cond b (e ∷ rest) rest ≡ [] → (in_leaf k e || list_any (in_leaf k) es) ≡ false
nothing_step k e es rest true p more h = absurd (cc)
nothing_step k e es rest false p more h = rw (not_in_leaf k e p) (more h)

pub nothing_upto : (k : List ℕ) (t : Entry → Bool) → ((e : Entry) → t e ≡ upto e.0.items k)
    → (es : List Entry) → filter t es ≡ [] → list_any (in_leaf k) es ≡ false
nothing_upto k t is [] h = refl
nothing_upto k t is (e ∷ es) h = nothing_step k e es (filter t es) (t e) (sym (is e)) (nothing_upto k t is es) h

covered_clashes : (e x : Entry) → e.1 ≡ true → within e.0.items x.0.items ≡ true → clashes (placed_of e) (placed_of x) ≡ true
covered_clashes e x leaf inside = let same = covers-unrank e.0.items x.0.items in grind (arith, nat_tests, same)

-- an entry before the last one holds no key that the last one does not
not_the_last : (k : List ℕ) (e x : Entry) → before e.0.items x.0.items ≡ true → clashes (placed_of e) (placed_of x) ≡ false
    → upto x.0.items k ≡ true → in_leaf k e ≡ false
not_the_last k e x behind clear upto_k =
    let between = within_between e.0.items x.0.items k (before_upto e.0.items x.0.items behind) upto_k in
    let clash = covered_clashes e x in
    grind (arith, nat_tests, between, clash)

last_in : (k : List ℕ) (t : Entry → Bool) → ((e : Entry) → t e ≡ upto e.0.items k) → (e : Entry) (es ys : List Entry) (x : Entry) (b : Bool)
    → t e ≡ b → AllByRecursion (λ (f : Entry). before e.0.items f.0.items ≡ true) es
    → AllByRecursion (λ (f : Entry). clashes (placed_of e) (placed_of f) ≡ false) es
    → ((zs : List Entry) → filter t es ≡ zs ++ x ∷ [] → list_any (in_leaf k) es ≡ in_leaf k x)
    → cond b (e ∷ filter t es) (filter t es) ≡ ys ++ x ∷ [] → (in_leaf k e || list_any (in_leaf k) es) ≡ in_leaf k x
last_in k t is e es ys x false p behind clear more h = rw (not_in_leaf k e (sym (is e) ∙ p)) (more ys h)
last_in k t is e es [] x true p behind clear more h =
    let same : e ≡ x = cc in
    let none : filter t es ≡ [] = cc in
    rw (nothing_upto k t is es none) (or_false (in_leaf k e) ∙ ap (in_leaf k) same)
  where
    or_false : (b : Bool) → (b || false) ≡ b
    or_false true = refl
    or_false false = refl
last_in k t is e es (y ∷ ys) x true p behind clear more h =
    let rest : filter t es ≡ ys ++ x ∷ [] = cc in
    let after = all_last (λ (f : Entry). before e.0.items f.0.items ≡ true) t es ys x rest behind in
    let fits = all_last (λ (f : Entry). clashes (placed_of e) (placed_of f) ≡ false) t es ys x rest clear in
    rw (not_the_last k e x after.0 fits.0 (sym (is x) ∙ after.1)) (more ys rest)

pub within_last : (k : List ℕ) (t : Entry → Bool) → ((e : Entry) → t e ≡ upto e.0.items k)
    → (es : List Entry) → Ascends es → Clear es → (ys : List Entry) (x : Entry) → filter t es ≡ ys ++ x ∷ []
    → list_any (in_leaf k) es ≡ in_leaf k x
within_last k t is [] up clear [] x h = absurd (cc)
within_last k t is [] up clear (y ∷ ys) x h = absurd (cc)
within_last k t is (e ∷ es) up clear ys x h =
    last_in k t is e es ys x (t e) refl up.0 clear.0 (λ zs. within_last k t is es up.1 clear.1 zs x) h

-- ---- what the two looks at the map find

and_true : (b : Bool) → (b && true) ≡ b
and_true true = refl
and_true false = refl

pub from_key : (key : Vec ℕ Global) (e : Entry) → range_contains order (Included key) Unbounded e.0 ≡ upto key.items e.0.items
from_key key e = and_true _ ∙ is_upto key.items e.0.items (order key e.0) refl

pub up_to_key : (key : Vec ℕ Global) (e : Entry) → range_contains order Unbounded (Included key) e.0 ≡ upto e.0.items key.items
up_to_key key e = ap not (is_before key.items e.0.items (order key e.0) refl) ∙ not_before key.items e.0.items

pub held_behind : (key : Vec ℕ Global) (es found : List Entry) → IsStrictlySortedBy order (keys_of es)
    → found ≡ filter (λ e. range_contains order (Included key) Unbounded e.0) es
    → list_any (λ q. covers (map unrank key.items) q.path) (map placed_of es) ≡ first_within key.items found
held_behind key es found up is =
    any-placed (λ q. covers (map unrank key.items) q.path) (λ e. within key.items e.0.items) (λ e. covers-unrank key.items e.0.items) es
    ∙ (within_first key.items (λ e. range_contains order (Included key) Unbounded e.0) (from_key key) es (ascends es up) ∙ ap (first_within key.items) (sym is))

placed_in_leaf : (key : Vec ℕ Global) (e : Entry) → ((placed_of e).leaf && covers (placed_of e).path (map unrank key.items)) ≡ in_leaf key.items e
placed_in_leaf key e = ap (λ b. e.1 && b) (covers-unrank e.0.items key.items)

pub none_held_before : (key : Vec ℕ Global) (es : List Entry)
    → filter (λ e. range_contains order Unbounded (Included key) e.0) es ≡ []
    → list_any (λ q. q.leaf && covers q.path (map unrank key.items)) (map placed_of es) ≡ false
none_held_before key es none =
    any-placed (λ q. q.leaf && covers q.path (map unrank key.items)) (in_leaf key.items) (placed_in_leaf key) es
    ∙ nothing_upto key.items (λ e. range_contains order Unbounded (Included key) e.0) (up_to_key key) es none

pub held_before : (key : Vec ℕ Global) (es ys : List Entry) (x : Entry) → IsStrictlySortedBy order (keys_of es)
    → is_clear (map placed_of es) ≡ true
    → filter (λ e. range_contains order Unbounded (Included key) e.0) es ≡ ys ++ x ∷ []
    → list_any (λ q. q.leaf && covers q.path (map unrank key.items)) (map placed_of es) ≡ in_leaf key.items x
held_before key es ys x up clear found =
    any-placed (λ q. q.leaf && covers q.path (map unrank key.items)) (in_leaf key.items) (placed_in_leaf key) es
    ∙ within_last key.items (λ e. range_contains order Unbounded (Included key) e.0) (up_to_key key) es (ascends es up) (clear_parts es clear) ys x found

pub clashes_either : (p : List ℕ) (leaf : Bool) (ps : List Placed)
    → list_any (clashes (record { path = p; leaf = leaf })) ps
    ≡ (list_any (λ q. q.leaf && covers q.path p) ps || (leaf && list_any (λ q. covers p q.path) ps))
clashes_either p true [] = refl
clashes_either p false [] = refl
clashes_either p true (q ∷ ps) = grind (arith, nat_tests, clashes_either p true ps)
clashes_either p false (q ∷ ps) = grind (arith, nat_tests, clashes_either p false ps)

-- ---- one more entry

equal_keys : (xs ys : List ℕ) → slice_cmp nat_cmp xs ys ≡ Equal → xs ≡ ys
equal_keys xs ys h = (bytes_eq-Decides xs ys).0 (sym (is_eq-slice_cmp xs ys) ∙ ap is_eq h)

within_itself : (k : List ℕ) → within k k ≡ true
within_itself [] = refl
within_itself (x ∷ k) = grind (arith, nat_tests, within_itself k)

-- two entries of one key that do not clash are two folders
two_folders : (k : Vec ℕ Global) (v : Bool) (e : Entry) → k.items ≡ e.0.items → clashes (placed_of (k, v)) (placed_of e) ≡ false
    → (v ≡ false) × (e.1 ≡ false)
two_folders k v e same clear =
    let here : covers (map unrank k.items) (map unrank e.0.items) ≡ true =
    covers-unrank k.items e.0.items ∙ (ap (within k.items) (sym same) ∙ within_itself k.items) in
    let there : covers (map unrank e.0.items) (map unrank k.items) ≡ true =
    covers-unrank e.0.items k.items ∙ (ap (within e.0.items) same ∙ within_itself e.0.items) in
    (grind (arith, nat_tests), grind (arith, nat_tests))

one_place : (k : Vec ℕ Global) (v : Bool) (e : Entry) → k.items ≡ e.0.items → clashes (placed_of (k, v)) (placed_of e) ≡ false
    → (placed_of (e.0, v) ≡ placed_of (k, v)) × (placed_of (e.0, v) ≡ placed_of e)
one_place k v e same clear =
    let folders = two_folders k v e same clear in
    let as_key : placed_of (e.0, v) ≡ placed_of (k, v) = placed_by (ap (map unrank) (sym same)) refl in
    let as_entry : placed_of (e.0, v) ≡ placed_of e = placed_by refl (folders.0 ∙ sym folders.1) in
    (as_key, as_entry)
  where
    placed_by : {p q : List ℕ} {a b : Bool} → p ≡ q → a ≡ b → (let x : Placed = record { path = p; leaf = a } in x) ≡ record { path = q; leaf = b }
    placed_by h k = cc

clear_head : (p : Placed) (e : Entry) (es : List Entry) → list_any (clashes p) (map placed_of (e ∷ es)) ≡ false
    → (clashes p (placed_of e) ≡ false) × (list_any (clashes p) (map placed_of es) ≡ false)
clear_head p e es h = (grind (arith, nat_tests), grind (arith, nat_tests))

three : (a b c : Bool) → (a || (b || c)) ≡ (b || (a || c))
three true true c = refl
three true false c = refl
three false b c = refl

twice : (a c : Bool) → (a || c) ≡ (a || (a || c))
twice true c = refl
twice false c = refl

any_step : (test : Placed → Bool) (k : Vec ℕ Global) (v : Bool) (e : Entry) (es more : List Entry) (o : Ordering) → order k e.0 ≡ o
    → clashes (placed_of (k, v)) (placed_of e) ≡ false
    → list_any test (map placed_of more) ≡ (test (placed_of (k, v)) || list_any test (map placed_of es))
    → list_any test (map placed_of (match_ordering o ((k, v) ∷ e ∷ es) ((e.0, v) ∷ es) (e ∷ more)))
    ≡ (test (placed_of (k, v)) || (test (placed_of e) || list_any test (map placed_of es)))
any_step test k v e es more Less is clear rest = refl
any_step test k v e es more Equal is clear rest =
    let one = one_place k v e (equal_keys k.items e.0.items is) clear in
    twice (test (placed_of (e.0, v))) (list_any test (map placed_of es))
    ∙ (ap (λ p. test p || (test (placed_of (e.0, v)) || list_any test (map placed_of es))) one.0
    ∙ ap (λ p. test (placed_of (k, v)) || (test p || list_any test (map placed_of es))) one.1)
any_step test k v e es more Greater is clear rest =
    ap (λ b. test (placed_of e) || b) rest ∙ three (test (placed_of e)) (test (placed_of (k, v))) (list_any test (map placed_of es))

pub any-insert : (test : Placed → Bool) (k : Vec ℕ Global) (v : Bool) (es : List Entry)
    → list_any (clashes (placed_of (k, v))) (map placed_of es) ≡ false
    → list_any test (map placed_of (insert_entry order es k v)) ≡ (test (placed_of (k, v)) || list_any test (map placed_of es))
any-insert test k v [] clear = refl
any-insert test k v (e ∷ es) clear =
    let parts = clear_head (placed_of (k, v)) e es clear in
    any_step test k v e es (insert_entry order es k v) (order k e.0) refl parts.0 (any-insert test k v es parts.1)

turned : (p q : Placed) → clashes p q ≡ clashes q p
turned p q = or_turned (p.leaf && covers p.path q.path) (q.leaf && covers q.path p.path)
  where
    or_turned : (a b : Bool) → (a || b) ≡ (b || a)
    or_turned true true = refl
    or_turned true false = refl
    or_turned false true = refl
    or_turned false false = refl

clear_step : (k : Vec ℕ Global) (v : Bool) (e : Entry) (es more : List Entry) (o : Ordering) → order k e.0 ≡ o
    → is_clear (map placed_of (e ∷ es)) ≡ true → list_any (clashes (placed_of (k, v))) (map placed_of (e ∷ es)) ≡ false
    → list_any (clashes (placed_of e)) (map placed_of more) ≡ (clashes (placed_of e) (placed_of (k, v)) || list_any (clashes (placed_of e)) (map placed_of es))
    → is_clear (map placed_of more) ≡ true
    → is_clear (map placed_of (match_ordering o ((k, v) ∷ e ∷ es) ((e.0, v) ∷ es) (e ∷ more))) ≡ true
clear_step k v e es more Less is up clear any rest = rw clear up
clear_step k v e es more Equal is up clear any rest =
    let one = one_place k v e (equal_keys k.items e.0.items is) (clear_head (placed_of (k, v)) e es clear).0 in
    ap (λ p. is_clear (p ∷ map placed_of es)) one.1 ∙ up
clear_step k v e es more Greater is up clear any rest =
    let here = turned (placed_of e) (placed_of (k, v)) ∙ (clear_head (placed_of (k, v)) e es clear).0 in
    grind (arith, nat_tests, here)

clear_tail : (e : Entry) (es : List Entry) → is_clear (map placed_of (e ∷ es)) ≡ true → is_clear (map placed_of es) ≡ true
clear_tail e es h = grind (arith, nat_tests)

pub is_clear-insert : (k : Vec ℕ Global) (v : Bool) (es : List Entry) → is_clear (map placed_of es) ≡ true
    → list_any (clashes (placed_of (k, v))) (map placed_of es) ≡ false → is_clear (map placed_of (insert_entry order es k v)) ≡ true
is_clear-insert k v [] up clear = refl
is_clear-insert k v (e ∷ es) up clear =
    let parts = clear_head (placed_of (k, v)) e es clear in
    clear_step k v e es (insert_entry order es k v) (order k e.0) refl up clear
    (any-insert (clashes (placed_of e)) k v es parts.1) (is_clear-insert k v es (clear_tail e es up) parts.1)
