-- A policy holds no more than the document that it is read from: each of its strings stands there once.
use Rattle.std.proofs.Common.{◌≡◌, ◌∙◌, refl, ℕ, ◌+◌, ◌≤◌, List, [], ◌∷◌, ◌++◌, Bool, true, false, not, length, Option, Some, None, Result, Ok, Err, arith, le_refl, inl, inr, nat_cmp, Ordering, Less, Equal, Greater, is_eq}
use Rattle.std.specs.Prelude.{◌&&◌, nat_lt, if◌then◌else◌}
use Rattle.std.specs.List.{sum_by}
use Rattle.std.specs.Str.{bytes_eq}
use Rattle.std.specs.Cmp.Lexicographic.{slice_cmp}
use Rattle.std.specs.Ordering.{match_ordering}
use Rattle.std.proofs.lemmas.List.Sums.{sum_by_push}
use Rattle.std.proofs.lemmas.Bool.{cases_Bool, and_parts, false≢true, true≢false}
use Rattle.std.proofs.lemmas.Bool.Decides.{nat_tests}
use Rattle.std.proofs.lemmas.Slice.Eq.{bytes_eq-Decides}
use Rattle.std.proofs.lemmas.Map.Text.{is_eq-slice_cmp}
use Rattle.toml.specs.Data.{Data, string, integer, float, boolean, datetime, array, table, Items, no_items, item, Members, no_members, member, get_member}
use Rattle.toml_size.specs.Sizes.{data_size, items_size, members_size}
use Rattle.policy_data.specs.declared.fault.ReadPolicyFault.{ReadPolicyFault}
use Rattle.policy_data.specs.declared.fault.ReadPolicyFault.TheVariants.{BadValue, OverLimit}
use Rattle.policy_toml.specs.Reading.{and_then, each_item, each_member}
use Rattle.policy_toml.specs.Keys.{below, nth, optional, required, value_or, value_of, known_keys, table_in, table_or, part}
use Rattle.policy_toml.specs.Values.{item_count, any_text, text_such, list_in, each}

-- what is read, if anything, has at most n bytes
abbrev pub AtMost : {A : Type 0} → (A → ℕ) → ℕ → Result A ReadPolicyFault → Type 0
AtMost size n (Ok a) = size a ≤ n
AtMost size n (Err e) = Unit {0}

pub most_more : {A : Type 0} (size : A → ℕ) (n m : ℕ) (r : Result A ReadPolicyFault) → n ≤ m → AtMost size n r → AtMost size m r
most_more size n m (Ok a) h most = omega arith
most_more size n m (Err e) h most = tt

pub most_then : {A B : Type 0} (size : A → ℕ) (other : B → ℕ) (n m : ℕ) (r : Result A ReadPolicyFault) (next : A → Result B ReadPolicyFault) → AtMost size n r
    → ((a : A) → size a ≤ n → AtMost other m (next a)) → AtMost other m (and_then r next)
most_then size other n m (Ok a) next h more = more a h
most_then size other n m (Err e) next h more = tt

-- after a part that holds nothing
pub most_after : {A B : Type 0} (other : B → ℕ) (m : ℕ) (r : Result A ReadPolicyFault) (next : A → Result B ReadPolicyFault)
    → ((a : A) → AtMost other m (next a)) → AtMost other m (and_then r next)
most_after other m (Ok a) next more = more a
most_after other m (Err e) next more = tt

-- ---- the values at some keys of a table

abbrev value_size : Option Data → ℕ
value_size None = 0
value_size (Some d) = data_size d

-- the bytes of the value at a key
abbrev pub at : List ℕ → Members → ℕ
at key ms = value_size (get_member key ms)

abbrev pub total : List (List ℕ) → Members → ℕ
total [] ms = 0
total (k ∷ ks) ms = at k ms + total ks ms

abbrev is_absent : List ℕ → List (List ℕ) → Bool
is_absent l [] = true
is_absent l (k ∷ ks) = not (bytes_eq k l) && is_absent l ks

-- no key stands twice in the list
abbrev pub are_distinct : List (List ℕ) → Bool
are_distinct [] = true
are_distinct (k ∷ ks) = is_absent k ks && are_distinct ks

other_by : (o : Ordering) (k : List ℕ) (d : Data) (ms : Members) → is_eq o ≡ false
    → value_size (match_ordering o (get_member k ms) (Some d) (get_member k ms)) ≡ at k ms
other_by Less k d ms h = refl
other_by Equal k d ms h = absurd (true≢false h)
other_by Greater k d ms h = refl

same_by : (o : Ordering) (k : List ℕ) (d : Data) (ms : Members) → is_eq o ≡ true
    → value_size (match_ordering o (get_member k ms) (Some d) (get_member k ms)) ≡ data_size d
same_by Less k d ms h = absurd (false≢true h)
same_by Equal k d ms h = refl
same_by Greater k d ms h = absurd (false≢true h)

at_other : (k l : List ℕ) (d : Data) (ms : Members) → bytes_eq k l ≡ false → at k (member l d ms) ≡ at k ms
at_other k l d ms h = other_by (slice_cmp nat_cmp k l) k d ms (is_eq-slice_cmp k l ∙ h)

at_same : (k l : List ℕ) (d : Data) (ms : Members) → bytes_eq k l ≡ true → at k (member l d ms) ≡ data_size d
at_same k l d ms h = same_by (slice_cmp nat_cmp k l) k d ms (is_eq-slice_cmp k l ∙ h)

total_other : (l : List ℕ) (d : Data) (ms : Members) (ks : List (List ℕ)) → is_absent l ks ≡ true → total ks (member l d ms) ≡ total ks ms
total_other l d ms [] h = refl
total_other l d ms (k ∷ ks) h =
    let (here, more) = and_parts (not (bytes_eq k l)) (is_absent l ks) h in
    let other : bytes_eq k l ≡ false = grind (arith, nat_tests) in
    omega (arith, at_other k l d ms other, total_other l d ms ks more)

total_member : (l : List ℕ) (d : Data) (ms : Members) (ks : List (List ℕ)) → are_distinct ks ≡ true → total ks (member l d ms) ≤ data_size d + total ks ms
total_member l d ms [] h = omega arith
total_member l d ms (k ∷ ks) h =
    let (here, more) = and_parts (is_absent k ks) (are_distinct ks) h in
    elim (cases_Bool (bytes_eq k l)) [
      | inl same ↦
          let is : k ≡ l = (bytes_eq-Decides k l).0 same in
          let absent : is_absent l ks ≡ true = rw (← is) here in
          omega (arith, at_same k l d ms same, total_other l d ms ks absent)
      | inr other ↦ omega (arith, at_other k l d ms other, total_member l d ms ks more)
    ]

total_none : (ks : List (List ℕ)) → total ks no_members ≡ 0
total_none [] = refl
total_none (k ∷ ks) = omega (arith, total_none ks)

-- the values at different keys are parts of the table
pub total_most : (ks : List (List ℕ)) (ms : Members) → are_distinct ks ≡ true → total ks ms ≤ members_size ms
total_most ks no_members h = omega (arith, total_none ks)
total_most ks (member l d ms) h = omega (arith, total_member l d ms ks h, total_most ks ms h)

-- ---- keys

-- what reads a value takes no more than there is in it
abbrev pub Takes : {A : Type 0} → (A → ℕ) → (List ℕ → Data → Result A ReadPolicyFault) → Type 0
Takes size read = (path : List ℕ) (d : Data) → AtMost size (data_size d) (read path d)

abbrev pub TakesFields : {A : Type 0} → (A → ℕ) → (List ℕ → Members → Result A ReadPolicyFault) → Type 0
TakesFields size fields = (path : List ℕ) (ms : Members) → AtMost size (members_size ms) (fields path ms)

value_or_most : {A : Type 0} (size : A → ℕ) (path : List ℕ) (other : A) (read : List ℕ → Data → Result A ReadPolicyFault) (o : Option Data) → size other ≡ 0 → Takes size read
    → AtMost size (value_size o) (value_or path other read o)
value_or_most size path other read None none takes = omega arith
value_or_most size path other read (Some d) none takes = takes path d

pub optional_most : {A : Type 0} (size : A → ℕ) (path key : List ℕ) (other : A) (read : List ℕ → Data → Result A ReadPolicyFault) (ms : Members) → size other ≡ 0 → Takes size read
    → AtMost size (at key ms) (optional path key other read ms)
optional_most size path key other read ms none takes = value_or_most size (below path key) other read (get_member key ms) none takes

value_of_most : {A : Type 0} (size : A → ℕ) (path : List ℕ) (read : List ℕ → Data → Result A ReadPolicyFault) (o : Option Data) → Takes size read
    → AtMost size (value_size o) (value_of path read o)
value_of_most size path read None takes = tt
value_of_most size path read (Some d) takes = takes path d

pub required_most : {A : Type 0} (size : A → ℕ) (path key : List ℕ) (read : List ℕ → Data → Result A ReadPolicyFault) (ms : Members) → Takes size read
    → AtMost size (at key ms) (required path key read ms)
required_most size path key read ms takes = value_of_most size (below path key) read (get_member key ms) takes

pub table_in_most : {A : Type 0} (size : A → ℕ) (known : List (List ℕ)) (fields : List ℕ → Members → Result A ReadPolicyFault) → TakesFields size fields → Takes size (table_in known fields)
table_in_most size known fields takes path (table ms) = most_after size (members_size ms) (known_keys path known ms) (λ _. fields path ms) (λ _. takes path ms)
table_in_most size known fields takes path (string text) = tt
table_in_most size known fields takes path (integer z) = tt
table_in_most size known fields takes path (float x) = tt
table_in_most size known fields takes path (boolean b) = tt
table_in_most size known fields takes path (datetime dt) = tt
table_in_most size known fields takes path (array ds) = tt

table_or_most : {A : Type 0} (size : A → ℕ) (known : List (List ℕ)) (fields : List ℕ → Members → Result A ReadPolicyFault) (path : List ℕ) (o : Option Data) → TakesFields size fields
    → AtMost size (value_size o) (table_or known fields path o)
table_or_most size known fields path None takes = takes path no_members
table_or_most size known fields path (Some d) takes = table_in_most size known fields takes path d

pub part_most : {A : Type 0} (size : A → ℕ) (key : List ℕ) (known : List (List ℕ)) (fields : List ℕ → Members → Result A ReadPolicyFault) (ms : Members) → TakesFields size fields
    → AtMost size (at key ms) (part key known fields ms)
part_most size key known fields ms takes = table_or_most size known fields key (get_member key ms) takes

-- ---- texts and lists

pub any_text_most : Takes length any_text
any_text_most path (string text) = le_refl (length text)
any_text_most path (integer z) = tt
any_text_most path (float x) = tt
any_text_most path (boolean b) = tt
any_text_most path (datetime dt) = tt
any_text_most path (array ds) = tt
any_text_most path (table ms) = tt

text_if_most : (test : Bool) (path text : List ℕ) → AtMost length (length text) (if test then Ok text else Err (BadValue path))
text_if_most true path text = le_refl (length text)
text_if_most false path text = tt

pub text_such_most : (test : List ℕ → Bool) → Takes length (text_such test)
text_such_most test path (string text) = text_if_most (test text) path text
text_such_most test path (integer z) = tt
text_such_most test path (float x) = tt
text_such_most test path (boolean b) = tt
text_such_most test path (datetime dt) = tt
text_such_most test path (array ds) = tt
text_such_most test path (table ms) = tt

abbrev pub TakesItem : {A : Type 0} → (A → ℕ) → (List A → Data → Result A ReadPolicyFault) → Type 0
TakesItem {A} size read = (seen : List A) (d : Data) → AtMost size (data_size d) (read seen d)

abbrev pub TakesMember : {A : Type 0} → (A → ℕ) → (List A → List ℕ → Data → Result A ReadPolicyFault) → Type 0
TakesMember {A} size read = (seen : List A) (key : List ℕ) (d : Data) → AtMost size (length key + data_size d) (read seen key d)

pub each_item_most : {A : Type 0} (size : A → ℕ) (read : List A → Data → Result A ReadPolicyFault) (seen : List A) (ds : Items) → TakesItem size read
    → AtMost (sum_by size) (sum_by size seen + items_size ds) (each_item read seen ds)
each_item_most size read seen no_items takes = omega arith
each_item_most size read seen (item d ds) takes =
    most_then size (sum_by size) _ _ (read seen d) _ (takes seen d)
    (λ a h. let fits : sum_by size (seen ++ a ∷ []) + items_size ds ≤ sum_by size seen + items_size (item d ds) = omega (arith, sum_by_push size seen a) in
    most_more (sum_by size) _ _ _ fits (each_item_most size read (seen ++ a ∷ []) ds takes))

pub each_member_most : {A : Type 0} (size : A → ℕ) (read : List A → List ℕ → Data → Result A ReadPolicyFault) (seen : List A) (ms : Members) → TakesMember size read
    → AtMost (sum_by size) (sum_by size seen + members_size ms) (each_member read seen ms)
each_member_most size read seen no_members takes = omega arith
each_member_most size read seen (member key d ms) takes =
    most_then size (sum_by size) _ _ (read seen key d) _ (takes seen key d)
    (λ a h. let fits : sum_by size (seen ++ a ∷ []) + members_size ms ≤ sum_by size seen + members_size (member key d ms) = omega (arith, sum_by_push size seen a) in
    most_more (sum_by size) _ _ _ fits (each_member_most size read (seen ++ a ∷ []) ms takes))

pub all_items_most : {A : Type 0} (size : A → ℕ) (read : List A → Data → Result A ReadPolicyFault) (ds : Items) → TakesItem size read
    → AtMost (sum_by size) (items_size ds) (each_item read [] ds)
all_items_most size read ds takes =
    let whole : sum_by size [] + items_size ds ≤ items_size ds = omega arith in most_more (sum_by size) _ _ _ whole (each_item_most size read [] ds takes)

pub all_members_most : {A : Type 0} (size : A → ℕ) (read : List A → List ℕ → Data → Result A ReadPolicyFault) (ms : Members) → TakesMember size read
    → AtMost (sum_by size) (members_size ms) (each_member read [] ms)
all_members_most size read ms takes =
    let whole : sum_by size [] + members_size ms ≤ members_size ms = omega arith in most_more (sum_by size) _ _ _ whole (each_member_most size read [] ms takes)

list_if_most : {A : Type 0} (size : A → ℕ) (too_long : Bool) (fault : ReadPolicyFault) (read : List A → Data → Result A ReadPolicyFault) (ds : Items) → TakesItem size read
    → AtMost (sum_by size) (items_size ds) (if too_long then Err fault else each_item read [] ds)
list_if_most size true fault read ds takes = tt
list_if_most size false fault read ds takes = all_items_most size read ds takes

pub list_in_most : {A : Type 0} (size : A → ℕ) (greatest : ℕ) (read : List ℕ → List A → Data → Result A ReadPolicyFault) → ((path : List ℕ) → TakesItem size (read path))
    → Takes (sum_by size) (list_in greatest read)
list_in_most size greatest read takes path (array ds) = list_if_most size (nat_lt greatest (item_count ds)) (OverLimit path (item_count ds)) (read path) ds (takes path)
list_in_most size greatest read takes path (string text) = tt
list_in_most size greatest read takes path (integer z) = tt
list_in_most size greatest read takes path (float x) = tt
list_in_most size greatest read takes path (boolean b) = tt
list_in_most size greatest read takes path (datetime dt) = tt
list_in_most size greatest read takes path (table ms) = tt

pub each_most : {A : Type 0} (size : A → ℕ) (read : List ℕ → Data → Result A ReadPolicyFault) → Takes size read → (path : List ℕ) → TakesItem size (each read path)
each_most size read takes path seen d = takes (nth path (length seen)) d
