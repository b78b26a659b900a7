-- What is read keeps a property, part after part.
use Rattle.std.proofs.Common.{◌≡◌, ◌∙◌, refl, ap, sym, ℕ, suc, ◌+◌, ◌≤◌, List, [], ◌∷◌, ◌++◌, Bool, true, false, not, length, map, Option, Some, None, Result, Ok, Err, arith, inl, inr, Ordering, Less, Equal, Greater, is_eq, nat_cmp}
use Rattle.std.specs.Prelude.{All, nat_lt, pos, negsuc, if◌then◌else◌}
use Rattle.std.specs.List.{list_any}
use Rattle.std.specs.Str.{bytes_eq}
use Rattle.std.specs.Ordering.{match_ordering}
use Rattle.std.specs.Cmp.Lexicographic.{slice_cmp}
use Rattle.std.proofs.lemmas.Bool.{cases_Bool, and_parts, false≢true, true≢false}
use Rattle.std.proofs.lemmas.Bool.Decides.{nat_tests}
use Rattle.std.proofs.lemmas.Grind.{common_steps}
use Rattle.std.proofs.lemmas.List.{map-append, append-nil}
use Rattle.std.proofs.lemmas.List.Elements.{All-nil, All-push}
use Rattle.std.proofs.lemmas.Map.Text.{is_eq-slice_cmp}
use Rattle.std.proofs.lemmas.Option.{none-some}
use Rattle.std.proofs.lemmas.Slice.Eq.{bytes_eq-Decides}
use Rattle.std.proofs.Math.Seq.{append_snoc}
use Rattle.toml.specs.Data.{Data, string, integer, float, boolean, datetime, array, table, Items, no_items, item, Members, no_members, member, get_member}
use Rattle.policy_data.specs.declared.fault.ReadPolicyFault.{ReadPolicyFault}
use Rattle.policy_data.specs.declared.fault.ReadPolicyFault.TheVariants.{BadValue, OverLimit}
use Rattle.policy_data.specs.Limits.{each_apart}
use Rattle.policy_toml.specs.Reading.{and_then, each_item, each_member}
use Rattle.policy_toml.specs.Keys.{below, nth, is_known, first_unknown, known_keys, optional, required, value_or, value_of, table_in, table_or, part}
use Rattle.policy_toml.specs.Values.{item_count, member_count, number_in, text_such, each, list_in}

-- the property holds of what is read, if anything
abbrev pub Keeps : {A : Type 0} → (A → Type 0) → Result A ReadPolicyFault → Type 0
Keeps P (Ok a) = P a
Keeps P (Err e) = Unit {0}

abbrev pub Reads : {A : Type 0} → (A → Type 0) → (List ℕ → Data → Result A ReadPolicyFault) → Type 0
Reads P read = (path : List ℕ) (d : Data) → Keeps P (read path d)

abbrev pub ReadsFields : {A : Type 0} → (A → Type 0) → (List ℕ → Members → Result A ReadPolicyFault) → Type 0
ReadsFields P fields = (path : List ℕ) (ms : Members) → Keeps P (fields path ms)

pub keeps_then : {A B : Type 0} (P : A → Type 0) (Q : B → Type 0) (r : Result A ReadPolicyFault) (next : A → Result B ReadPolicyFault) → Keeps P r
    → ((a : A) → P a → Keeps Q (next a)) → Keeps Q (and_then r next)
keeps_then P Q (Ok a) next h more = more a h
keeps_then P Q (Err e) next h more = tt

-- after a part that says nothing
pub keeps_after : {A B : Type 0} (Q : B → Type 0) (r : Result A ReadPolicyFault) (next : A → Result B ReadPolicyFault)
    → ((a : A) → Keeps Q (next a)) → Keeps Q (and_then r next)
keeps_after Q (Ok a) next more = more a
keeps_after Q (Err e) next more = tt

pub keeps_weaker : {A : Type 0} (P Q : A → Type 0) (r : Result A ReadPolicyFault) → ((a : A) → P a → Q a) → Keeps P r → Keeps Q r
keeps_weaker P Q (Ok a) weaker h = weaker a h
keeps_weaker P Q (Err e) weaker h = tt

pub keeps_always : {A : Type 0} (P : A → Type 0) (r : Result A ReadPolicyFault) → ((a : A) → P a) → Keeps P r
keeps_always P (Ok a) h = h a
keeps_always P (Err e) h = tt

pub keeps_both : {A : Type 0} (P Q : A → Type 0) (r : Result A ReadPolicyFault) → Keeps P r → Keeps Q r → Keeps (λ a. P a × Q a) r
keeps_both P Q (Ok a) p q = (p, q)
keeps_both P Q (Err e) p q = tt

-- ---- keys

value_or_keeps : {A : Type 0} (P : A → Type 0) (path : List ℕ) (other : A) (read : List ℕ → Data → Result A ReadPolicyFault) (o : Option Data) → P other → Reads P read
    → Keeps P (value_or path other read o)
value_or_keeps P path other read None here reads = here
value_or_keeps P path other read (Some d) here reads = reads path d

pub optional_keeps : {A : Type 0} (P : A → Type 0) (path key : List ℕ) (other : A) (read : List ℕ → Data → Result A ReadPolicyFault) (ms : Members) → P other → Reads P read
    → Keeps P (optional path key other read ms)
optional_keeps P path key other read ms here reads = value_or_keeps P (below path key) other read (get_member key ms) here reads

value_or_absent : {A : Type 0} (path : List ℕ) (other : A) (read : List ℕ → Data → Result A ReadPolicyFault) (o : Option Data)
    → Keeps (λ a. o ≡ None → a ≡ other) (value_or path other read o)
value_or_absent path other read None = λ _. refl
value_or_absent path other read (Some d) = keeps_always _ (read path d) (λ a gone. absurd (none-some d (sym gone)))

-- where the key is absent, the other value stands for it
pub optional_absent : {A : Type 0} (path key : List ℕ) (other : A) (read : List ℕ → Data → Result A ReadPolicyFault) (ms : Members)
    → Keeps (λ a. get_member key ms ≡ None → a ≡ other) (optional path key other read ms)
optional_absent path key other read ms = value_or_absent (below path key) other read (get_member key ms)

value_of_keeps : {A : Type 0} (P : A → Type 0) (path : List ℕ) (read : List ℕ → Data → Result A ReadPolicyFault) (o : Option Data) → Reads P read
    → Keeps P (value_of path read o)
value_of_keeps P path read None reads = tt
value_of_keeps P path read (Some d) reads = reads path d

pub required_keeps : {A : Type 0} (P : A → Type 0) (path key : List ℕ) (read : List ℕ → Data → Result A ReadPolicyFault) (ms : Members) → Reads P read
    → Keeps P (required path key read ms)
required_keeps P path key read ms reads = value_of_keeps P (below path key) read (get_member key ms) reads

pub table_in_keeps : {A : Type 0} (P : A → Type 0) (known : List (List ℕ)) (fields : List ℕ → Members → Result A ReadPolicyFault) → ReadsFields P fields → Reads P (table_in known fields)
table_in_keeps P known fields reads path (table ms) = keeps_after P (known_keys path known ms) (λ _. fields path ms) (λ _. reads path ms)
table_in_keeps P known fields reads path (string text) = tt
table_in_keeps P known fields reads path (integer z) = tt
table_in_keeps P known fields reads path (float x) = tt
table_in_keeps P known fields reads path (boolean b) = tt
table_in_keeps P known fields reads path (datetime dt) = tt
table_in_keeps P known fields reads path (array ds) = tt

table_or_keeps : {A : Type 0} (P : A → Type 0) (known : List (List ℕ)) (fields : List ℕ → Members → Result A ReadPolicyFault) (path : List ℕ) (o : Option Data) → ReadsFields P fields
    → Keeps P (table_or known fields path o)
table_or_keeps P known fields path None reads = reads path no_members
table_or_keeps P known fields path (Some d) reads = table_in_keeps P known fields reads path d

pub part_keeps : {A : Type 0} (P : A → Type 0) (key : List ℕ) (known : List (List ℕ)) (fields : List ℕ → Members → Result A ReadPolicyFault) (ms : Members) → ReadsFields P fields
    → Keeps P (part key known fields ms)
part_keeps P key known fields ms reads = table_or_keeps P known fields key (get_member key ms) reads

-- ---- a key that is not known is absent

other_by : (o : Ordering) (k : List ℕ) (d : Data) (ms : Members) → is_eq o ≡ false → match_ordering o (get_member k ms) (Some d) (get_member k ms) ≡ get_member k ms
other_by Less k d ms h = refl
other_by Equal k d ms h = absurd (true≢false h)
other_by Greater k d ms h = refl

unknown_by : (b : Bool) (key l : List ℕ) (known : List (List ℕ)) (d : Data) (ms : Members) → is_known known l ≡ b → is_known known key ≡ false
    → (if b then first_unknown known ms else Some l) ≡ None → (first_unknown known ms ≡ None) × (bytes_eq key l ≡ false)
unknown_by false key l known d ms is other e = absurd (none-some l (sym e))
unknown_by true key l known d ms is other e = (
  e,
  elim (cases_Bool (bytes_eq key l)) [
    | inl same ↦ let is_same : key ≡ l = (bytes_eq-Decides key l).0 same in absurd (false≢true (sym other ∙ (ap (is_known known) is_same ∙ is)))
    | inr apart ↦ apart
  ],
)

pub unknown_absent : (key : List ℕ) (known : List (List ℕ)) (ms : Members) → is_known known key ≡ false → first_unknown known ms ≡ None → get_member key ms ≡ None
unknown_absent key known no_members other e = refl
unknown_absent key known (member l d ms) other e =
    let (more, apart) = unknown_by (is_known known l) key l known d ms refl other e in
    other_by (slice_cmp nat_cmp key l) key d ms (is_eq-slice_cmp key l ∙ apart) ∙ unknown_absent key known ms other more

-- ---- numbers and texts

natural_by : (low high : Bool) (least greatest n : ℕ) (path : List ℕ) → nat_lt n least ≡ low → nat_lt greatest n ≡ high
    → Keeps (λ m. (least ≤ m) × (m ≤ greatest)) (if low then Err (BadValue path) else (if high then Err (OverLimit path n) else Ok n))
natural_by true high least greatest n path e f = tt
natural_by false true least greatest n path e f = tt
natural_by false false least greatest n path e f = (grind (arith, nat_tests, e), grind (arith, nat_tests, f))

pub number_keeps : (least greatest : ℕ) → Reads (λ n. (least ≤ n) × (n ≤ greatest)) (number_in least greatest)
number_keeps least greatest path (integer (pos n)) = natural_by (nat_lt n least) (nat_lt greatest n) least greatest n path refl refl
number_keeps least greatest path (integer (negsuc n)) = tt
number_keeps least greatest path (string text) = tt
number_keeps least greatest path (float x) = tt
number_keeps least greatest path (boolean b) = tt
number_keeps least greatest path (datetime dt) = tt
number_keeps least greatest path (array ds) = tt
number_keeps least greatest path (table ms) = tt

such_by : (b : Bool) (test : List ℕ → Bool) (path text : List ℕ) → test text ≡ b → Keeps (λ t. test t ≡ true) (if b then Ok text else Err (BadValue path))
such_by true test path text e = e
such_by false test path text e = tt

pub text_such_keeps : (test : List ℕ → Bool) → Reads (λ t. test t ≡ true) (text_such test)
text_such_keeps test path (string text) = such_by (test text) test path text refl
text_such_keeps test path (integer z) = tt
text_such_keeps test path (float x) = tt
text_such_keeps test path (boolean b) = tt
text_such_keeps test path (datetime dt) = tt
text_such_keeps test path (array ds) = tt
text_such_keeps test path (table ms) = tt

-- ---- lists

pub items_keep : {A : Type 0} (P : List A → Type 0) (read : List A → Data → Result A ReadPolicyFault)
    → ((seen : List A) (d : Data) → P seen → Keeps (λ a. P (seen ++ a ∷ [])) (read seen d)) → (seen : List A) (ds : Items) → P seen → Keeps P (each_item read seen ds)
items_keep P read step seen no_items h = h
items_keep P read step seen (item d ds) h =
    keeps_then (λ a. P (seen ++ a ∷ [])) P (read seen d) _ (step seen d h) (λ a k. items_keep P read step (seen ++ a ∷ []) ds k)

pub members_keep : {A : Type 0} (P : List A → Type 0) (read : List A → List ℕ → Data → Result A ReadPolicyFault)
    → ((seen : List A) (key : List ℕ) (d : Data) → P seen → Keeps (λ a. P (seen ++ a ∷ [])) (read seen key d)) → (seen : List A) (ms : Members) → P seen
    → Keeps P (each_member read seen ms)
members_keep P read step seen no_members h = h
members_keep P read step seen (member key d ms) h =
    keeps_then (λ a. P (seen ++ a ∷ [])) P (read seen key d) _ (step seen key d h) (λ a k. members_keep P read step (seen ++ a ∷ []) ms k)

one_more : {A : Type 0} (found : List A) (seen : List A) (a : A) (n : ℕ) → length found ≡ length (seen ++ a ∷ []) + n → length found ≡ length seen + suc n
one_more found seen a n h = grind (arith, common_steps, h)

-- as many as the document has
pub items_count : {A : Type 0} (read : List A → Data → Result A ReadPolicyFault) (seen : List A) (ds : Items)
    → Keeps (λ found. length found ≡ length seen + item_count ds) (each_item read seen ds)
items_count read seen no_items = omega arith
items_count read seen (item d ds) =
    keeps_after (λ found. length found ≡ length seen + suc (item_count ds)) (read seen d) _
    (λ a. keeps_weaker (λ found. length found ≡ length (seen ++ a ∷ []) + item_count ds) (λ found. length found ≡ length seen + suc (item_count ds)) (each_item read (seen ++ a ∷ []) ds)
    (λ found h. one_more found seen a (item_count ds) h) (items_count read (seen ++ a ∷ []) ds))

pub members_count : {A : Type 0} (read : List A → List ℕ → Data → Result A ReadPolicyFault) (seen : List A) (ms : Members)
    → Keeps (λ found. length found ≡ length seen + member_count ms) (each_member read seen ms)
members_count read seen no_members = omega arith
members_count read seen (member key d ms) =
    keeps_after (λ found. length found ≡ length seen + suc (member_count ms)) (read seen key d) _
    (λ a. keeps_weaker (λ found. length found ≡ length (seen ++ a ∷ []) + member_count ms) (λ found. length found ≡ length seen + suc (member_count ms)) (each_member read (seen ++ a ∷ []) ms)
    (λ found h. one_more found seen a (member_count ms) h) (members_count read (seen ++ a ∷ []) ms))

list_by : {A : Type 0} (P : List A → Type 0) (greatest : ℕ) (read : List A → Data → Result A ReadPolicyFault) (path : List ℕ) (ds : Items) (b : Bool) → nat_lt greatest (item_count ds) ≡ b
    → Keeps P (each_item read [] ds)
    → Keeps (λ found. (length found ≤ greatest) × P found) (if b then Err (OverLimit path (item_count ds)) else each_item read [] ds)
list_by P greatest read path ds true e h = tt
list_by P greatest read path ds false e h =
    let few : item_count ds ≤ greatest = grind (arith, nat_tests, e) in
    keeps_both (λ found. length found ≤ greatest) P (each_item read [] ds)
    (keeps_weaker (λ found. length found ≡ 0 + item_count ds) (λ found. length found ≤ greatest) (each_item read [] ds) (λ found h. omega (arith, h, few)) (items_count read [] ds)) h

pub list_in_keeps : {A : Type 0} (P : List A → Type 0) (greatest : ℕ) (read : List ℕ → List A → Data → Result A ReadPolicyFault) → P []
    → ((path : List ℕ) (seen : List A) (d : Data) → P seen → Keeps (λ a. P (seen ++ a ∷ [])) (read path seen d))
    → Reads (λ found. (length found ≤ greatest) × P found) (list_in greatest read)
list_in_keeps P greatest read none step path (array ds) =
    list_by P greatest (read path) path ds (nat_lt greatest (item_count ds)) refl (items_keep P (read path) (step path) [] ds none)
list_in_keeps P greatest read none step path (string text) = tt
list_in_keeps P greatest read none step path (integer z) = tt
list_in_keeps P greatest read none step path (float x) = tt
list_in_keeps P greatest read none step path (boolean b) = tt
list_in_keeps P greatest read none step path (datetime dt) = tt
list_in_keeps P greatest read none step path (table ms) = tt

-- a list of items, each of which is read like a value alone
pub each_keeps : {A : Type 0} (Q : A → Type 0) (greatest : ℕ) (read : List ℕ → Data → Result A ReadPolicyFault) → Reads Q read
    → Reads (λ found. (length found ≤ greatest) × All Q found) (list_in greatest (each read))
each_keeps Q greatest read reads =
    list_in_keeps (All Q) greatest (each read) (All-nil Q)
    (λ path seen d h. keeps_weaker Q (λ a. All Q (seen ++ a ∷ [])) (read (nth path (length seen)) d) (λ a k. All-push Q seen a h k) (reads (nth path (length seen)) d))

-- ---- what stands apart

apart_one : {A : Type 0} (meets : A → A → Bool) (there : List A) (y : A) → list_any (meets y) (there ++ []) ≡ false → each_apart meets there (y ∷ []) ≡ true
apart_one meets there y h = let none : list_any (meets y) there ≡ false = ap (list_any (meets y)) (sym (append-nil there)) ∙ h in rw (none) refl

-- one more that meets none of those before it
pub apart_more : {A : Type 0} (meets : A → A → Bool) (there xs : List A) (y : A) → each_apart meets there xs ≡ true → list_any (meets y) (there ++ xs) ≡ false
    → each_apart meets there (xs ++ y ∷ []) ≡ true
apart_more meets there [] y h none = apart_one meets there y none
apart_more meets there (x ∷ xs) y h none =
    let (here, more) = and_parts (not (list_any (meets x) there)) (each_apart meets (there ++ x ∷ []) xs) h in
    let rest = apart_more meets (there ++ x ∷ []) xs y more (ap (list_any (meets y)) (append_snoc there x xs) ∙ none) in
    rw (here, rest) refl

-- the one list, and the other after it
pub apart_append : {A : Type 0} (meets : A → A → Bool) (there xs ys : List A) → each_apart meets there xs ≡ true → each_apart meets (there ++ xs) ys ≡ true
    → each_apart meets there (xs ++ ys) ≡ true
apart_append meets there [] ys h k = ap (λ t. each_apart meets t ys) (sym (append-nil there)) ∙ k
apart_append meets there (x ∷ xs) ys h k =
    let (here, more) = and_parts (not (list_any (meets x) there)) (each_apart meets (there ++ x ∷ []) xs) h in
    let rest = apart_append meets (there ++ x ∷ []) xs ys more (ap (λ t. each_apart meets t ys) (append_snoc there x xs) ∙ k) in
    rw (here, rest) refl

pub map_more : {A B : Type 0} (meets : B → B → Bool) (f : A → B) (there : List B) (seen : List A) (a : A) → each_apart meets there (map f seen) ≡ true
    → list_any (meets (f a)) (there ++ map f seen) ≡ false → each_apart meets there (map f (seen ++ a ∷ [])) ≡ true
map_more meets f there seen a h none = ap (each_apart meets there) (map-append f seen (a ∷ [])) ∙ apart_more meets there (map f seen) (f a) h none

pub not_true : (b : Bool) → not b ≡ true → b ≡ false
not_true true h = absurd (false≢true h)
not_true false h = refl
