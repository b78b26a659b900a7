-- A value that is read by a type is of the type, where texts are UTF-8.
use Rattle.std.proofs.Common.{◌≡◌, ℕ, ℤ, zero, suc, ◌+◌, ◌*◌, ◌^◌, ◌≤◌, List, [], ◌∷◌, length, refl, ap, ◌∙◌, subst, pos, Bool, true, false, ◌&&◌, ◌||◌, cond, mul-suc, arith}
use Rattle.std.specs.Prelude.{Option, Some, None, option_map, chars, nat_lt, neg_ℤ, if◌then◌else◌}
use Rattle.std.specs.Str.{bytes_eq}
use Rattle.std.proofs.Math.Nat.{pow-suc}
use Rattle.std.proofs.lemmas.Bool.{and_parts, lt-ltb}
use lib.Utf8.{scalar, scalars}
use Rattle.wit_types.specs.Plain.{Name, Plain, Parts, VariantForm, RecordForm, AsRecord, AsTuple, AsVariant, AsEnum, AsOption, AsResult, BoolType, SignedType, UnsignedType, CharType, StringType, ListType, RecordType, VariantType, FlagsType, OwnType, BorrowType, End as NoParts, More as Part, Bare}
use Rattle.wit_types.specs.PlainValue.{PlainValue, PlainValues, Payload, BoolValue, IntValue, CharValue, StringValue, ListValue, RecordValue, VariantValue, FlagsValue, HandleValue}
use Rattle.wit_types.specs.HasType.{integers, negatives, is_bool, is_integer, is_char, is_scalar, is_string, all_pass, is_list, is_record, is_variant, is_flags, is_handle, is_without, is_with, first_and_rest, is_none_left, case_or_later, is_of, are_of, is_of_case}
use Rattle.host_port.specs.Untyped.{Untyped, Items, Members, Null, Truth, Number, Inexact, Text, Array, Object, NoItems, Item, NoMembers, Member, truth_in, passing, integer_in, only_char, char_in, text_in, handle_of, both, each_item, list_in, no_item, first_item, tuple_in, taken, take_member, no_member, named_member, record_in, Chosen, case_named, with_payload, only_member, choice_in, label_in, ok_or_err, some_only, option_in, chosen, nothing_in, payload_in, case_at, variant_of, flags_from, flags_in, record_by, reading, parts_reading, fields_reading, case_reading}

-- each text is UTF-8
abbrev mutual
  pub is_textual : Untyped → Bool
  is_textual Null = true
  is_textual (Truth b) = true
  is_textual (Number n) = true
  is_textual Inexact = true
  is_textual (Text bytes) = scalars (chars bytes)
  is_textual (Array items) = are_textual items
  is_textual (Object members) = members_textual members

  pub are_textual : Items → Bool
  are_textual NoItems = true
  are_textual (Item u us) = is_textual u && are_textual us

  pub members_textual : Members → Bool
  members_textual NoMembers = true
  members_textual (Member name u ms) = is_textual u && members_textual ms

-- ---- what there is passes a test

abbrev pub Passes : (PlainValue → Bool) → Option PlainValue → Type 0
Passes test None = Unit {0}
Passes test (Some v) = test v ≡ true

abbrev pub AllPass : (PlainValues → Bool) → Option PlainValues → Type 0
AllPass test None = Unit {0}
AllPass test (Some vs) = test vs ≡ true

abbrev PayloadPasses : (Payload → Bool) → Option Payload → Type 0
PayloadPasses test None = Unit {0}
PayloadPasses test (Some p) = test p ≡ true

two : (a b : Bool) → a ≡ true → b ≡ true → (a && b) ≡ true
two true b h k = k
two false b h k = h

tested : (test : PlainValue → Bool) (v : PlainValue) (b : Bool) → test v ≡ b → Passes test (if b then Some v else None)
tested test v true h = h
tested test v false h = tt

passing_passes : (test : PlainValue → Bool) (v : PlainValue) → Passes test (passing test v)
passing_passes test v = tested test v (test v) refl

-- ---- values of one part

truth_passes : (u : Untyped) → Passes is_bool (truth_in u)
truth_passes Null = tt
truth_passes (Truth b) = refl
truth_passes (Number n) = tt
truth_passes Inexact = tt
truth_passes (Text bytes) = tt
truth_passes (Array items) = tt
truth_passes (Object _) = tt

integer_passes : (low end : ℤ) (u : Untyped) → Passes (is_integer low end) (integer_in low end u)
integer_passes low end Null = tt
integer_passes low end (Truth b) = tt
integer_passes low end (Number n) = passing_passes (is_integer low end) (IntValue n)
integer_passes low end Inexact = tt
integer_passes low end (Text bytes) = tt
integer_passes low end (Array items) = tt
integer_passes low end (Object _) = tt

scalar_same : (c : ℕ) → is_scalar c ≡ scalar c
scalar_same c = first (nat_lt c 0xD800) _
  where
    first : (b d : Bool) → (b || d) ≡ cond b true d
    first true d = refl
    first false d = refl

only_char_passes : (cs : List ℕ) → scalars cs ≡ true → Passes is_char (only_char cs)
only_char_passes [] h = tt
only_char_passes (c ∷ []) h = scalar_same c ∙ (and_parts (scalar c) true h).0
only_char_passes (c ∷ d ∷ cs) h = tt

char_passes : (u : Untyped) → is_textual u ≡ true → Passes is_char (char_in u)
char_passes Null h = tt
char_passes (Truth b) h = tt
char_passes (Number n) h = tt
char_passes Inexact h = tt
char_passes (Text bytes) h = only_char_passes (chars bytes) h
char_passes (Array items) h = tt
char_passes (Object _) h = tt

text_passes : (u : Untyped) → Passes is_string (text_in u)
text_passes Null = tt
text_passes (Truth b) = tt
text_passes (Number n) = tt
text_passes Inexact = tt
text_passes (Text bytes) = refl
text_passes (Array items) = tt
text_passes (Object _) = tt

handle_of_passes : (o : Option PlainValue) → Passes is_handle (handle_of o)
handle_of_passes None = tt
handle_of_passes (Some (BoolValue b)) = tt
handle_of_passes (Some (IntValue n)) = refl
handle_of_passes (Some (CharValue c)) = tt
handle_of_passes (Some (StringValue s)) = tt
handle_of_passes (Some (ListValue vs)) = tt
handle_of_passes (Some (RecordValue vs)) = tt
handle_of_passes (Some (VariantValue n p)) = tt
handle_of_passes (Some (FlagsValue n)) = tt
handle_of_passes (Some (HandleValue n)) = tt

-- ---- lists, tuples and records

both_each : (test : PlainValue → Bool) (o : Option PlainValue) (os : Option PlainValues) → Passes test o → AllPass (all_pass test) os → AllPass (all_pass test) (both o os)
both_each test None None h k = tt
both_each test None (Some vs) h k = tt
both_each test (Some v) None h k = tt
both_each test (Some v) (Some vs) h k = two (test v) (all_pass test vs) h k

both_parts : (first : PlainValue → Bool) (rest : PlainValues → Bool) (o : Option PlainValue) (os : Option PlainValues) → Passes first o → AllPass rest os
    → AllPass (λ vs. first_and_rest first rest vs) (both o os)
both_parts first rest None None h k = tt
both_parts first rest None (Some vs) h k = tt
both_parts first rest (Some v) None h k = tt
both_parts first rest (Some v) (Some vs) h k = two (first v) (rest vs) h k

each_passes : (read : Untyped → Option PlainValue) (test : PlainValue → Bool) (items : Items) → are_textual items ≡ true
    → ((u : Untyped) → is_textual u ≡ true → Passes test (read u)) → AllPass (all_pass test) (each_item read items)
each_passes read test NoItems h all = refl
each_passes read test (Item u us) h all =
    let p = and_parts (is_textual u) (are_textual us) h in
    both_each test (read u) (each_item read us) (all u p.0) (each_passes read test us p.1 all)

list_of : (test : PlainValue → Bool) (os : Option PlainValues) → AllPass (all_pass test) os → Passes (is_list test) (option_map ListValue os)
list_of test None h = tt
list_of test (Some vs) h = h

list_passes : (read : Untyped → Option PlainValue) (test : PlainValue → Bool) (u : Untyped) → is_textual u ≡ true
    → ((v : Untyped) → is_textual v ≡ true → Passes test (read v)) → Passes (is_list test) (list_in read u)
list_passes read test Null h all = tt
list_passes read test (Truth b) h all = tt
list_passes read test (Number n) h all = tt
list_passes read test Inexact h all = tt
list_passes read test (Text bytes) h all = tt
list_passes read test (Array items) h all = list_of test (each_item read items) (each_passes read test items h all)
list_passes read test (Object _) h all = tt

record_of : (test : PlainValues → Bool) (os : Option PlainValues) → AllPass test os → Passes (is_record test) (option_map RecordValue os)
record_of test None h = tt
record_of test (Some vs) h = h

tuple_passes : (read : Items → Option PlainValues) (test : PlainValues → Bool) (u : Untyped) → is_textual u ≡ true
    → ((items : Items) → are_textual items ≡ true → AllPass test (read items)) → Passes (is_record test) (tuple_in read u)
tuple_passes read test Null h all = tt
tuple_passes read test (Truth b) h all = tt
tuple_passes read test (Number n) h all = tt
tuple_passes read test Inexact h all = tt
tuple_passes read test (Text bytes) h all = tt
tuple_passes read test (Array items) h all = record_of test (read items) (all items h)
tuple_passes read test (Object _) h all = tt

record_passes : (read : Members → Option PlainValues) (test : PlainValues → Bool) (u : Untyped) → is_textual u ≡ true
    → ((members : Members) → members_textual members ≡ true → AllPass test (read members)) → Passes (is_record test) (record_in read u)
record_passes read test Null h all = tt
record_passes read test (Truth b) h all = tt
record_passes read test (Number n) h all = tt
record_passes read test Inexact h all = tt
record_passes read test (Text bytes) h all = tt
record_passes read test (Array items) h all = tt
record_passes read test (Object members) h all = record_of test (read members) (all members h)

form_passes : (form : RecordForm) (tuple : Items → Option PlainValues) (fields : Members → Option PlainValues) (test : PlainValues → Bool) (u : Untyped) → is_textual u ≡ true
    → ((items : Items) → are_textual items ≡ true → AllPass test (tuple items)) → ((members : Members) → members_textual members ≡ true → AllPass test (fields members))
    → Passes (is_record test) (record_by form tuple fields u)
form_passes AsRecord tuple fields test u h parts members = record_passes fields test u h members
form_passes AsTuple tuple fields test u h parts members = tuple_passes tuple test u h parts

abbrev TakenTextual : Option (Untyped × Members) → Type 0
TakenTextual None = Unit {0}
TakenTextual (Some (u, rest)) = (is_textual u ≡ true) × (members_textual rest ≡ true)

taken_textual : (name : Name) (u : Untyped) (o : Option (Untyped × Members)) → is_textual u ≡ true → TakenTextual o → TakenTextual (taken name u o)
taken_textual name u None h k = tt
taken_textual name u (Some (v, rest)) h k = (k.0, two (is_textual u) (members_textual rest) h k.1)

one_taken : (b : Bool) (other : Name) (u : Untyped) (ms : Members) (o : Option (Untyped × Members)) → is_textual u ≡ true → members_textual ms ≡ true → TakenTextual o
    → TakenTextual (if b then Some (u, ms) else taken other u o)
one_taken true other u ms o h k t = (h, k)
one_taken false other u ms o h k t = taken_textual other u o h t

take_textual : (name : Name) (ms : Members) → members_textual ms ≡ true → TakenTextual (take_member name ms)
take_textual name NoMembers h = tt
take_textual name (Member other u ms) h =
    let p = and_parts (is_textual u) (members_textual ms) h in
    one_taken (bytes_eq other name) other u ms (take_member name ms) p.0 p.1 (take_textual name ms p.1)

named_passes : (read : Untyped → Option PlainValue) (rest : Members → Option PlainValues) (first : PlainValue → Bool) (later : PlainValues → Bool) (o : Option (Untyped × Members)) → TakenTextual o
    → ((u : Untyped) → is_textual u ≡ true → Passes first (read u)) → ((ms : Members) → members_textual ms ≡ true → AllPass later (rest ms))
    → AllPass (λ vs. first_and_rest first later vs) (named_member read rest o)
named_passes read rest first later None t one all = tt
named_passes read rest first later (Some (u, ms)) t one all = both_parts first later (read u) (rest ms) (one u t.0) (all ms t.1)

-- ---- variants

abbrev ChosenTextual : Option Chosen → Type 0
ChosenTextual None = Unit {0}
ChosenTextual (Some (n, u)) = is_textual u ≡ true

payload_textual : (u : Untyped) (o : Option ℕ) → is_textual u ≡ true → ChosenTextual (with_payload u o)
payload_textual u None h = tt
payload_textual u (Some n) h = h

only_textual : (number : Name → Option ℕ) (ms : Members) → members_textual ms ≡ true → ChosenTextual (only_member number ms)
only_textual number NoMembers h = tt
only_textual number (Member name u NoMembers) h = payload_textual u (number name) (and_parts (is_textual u) true h).0
only_textual number (Member name u (Member other v ms)) h = tt

choice_textual : (number : Name → Option ℕ) (u : Untyped) → is_textual u ≡ true → ChosenTextual (choice_in number u)
choice_textual number Null h = tt
choice_textual number (Truth b) h = tt
choice_textual number (Number n) h = tt
choice_textual number Inexact h = tt
choice_textual number (Text bytes) h = tt
choice_textual number (Array items) h = tt
choice_textual number (Object members) h = only_textual number members h

label_textual : (number : Name → Option ℕ) (u : Untyped) → ChosenTextual (label_in number u)
label_textual number Null = tt
label_textual number (Truth b) = tt
label_textual number (Number n) = tt
label_textual number Inexact = tt
label_textual number (Text label) = payload_textual Null (number label) refl
label_textual number (Array items) = tt
label_textual number (Object _) = tt

option_textual : (u : Untyped) → is_textual u ≡ true → ChosenTextual (option_in u)
option_textual Null h = refl
option_textual (Truth b) h = tt
option_textual (Number n) h = tt
option_textual Inexact h = tt
option_textual (Text bytes) h = tt
option_textual (Array items) h = tt
option_textual (Object members) h = only_textual some_only members h

chosen_textual : (form : VariantForm) (cases : Parts) (u : Untyped) → is_textual u ≡ true → ChosenTextual (chosen form cases u)
chosen_textual AsVariant cases u h = choice_textual (λ label. case_named label cases) u h
chosen_textual AsEnum cases u h = label_textual (λ label. case_named label cases) u
chosen_textual AsOption cases u h = option_textual u h
chosen_textual AsResult cases u h = choice_textual ok_or_err u h

nothing_passes : (u : Untyped) → PayloadPasses is_without (nothing_in u)
nothing_passes Null = refl
nothing_passes (Truth b) = tt
nothing_passes (Number n) = tt
nothing_passes Inexact = tt
nothing_passes (Text bytes) = tt
nothing_passes (Array items) = tt
nothing_passes (Object _) = tt

payload_passes : (test : PlainValue → Bool) (o : Option PlainValue) → Passes test o → PayloadPasses (λ p. is_with test p) (payload_in o)
payload_passes test None h = tt
payload_passes test (Some v) h = h

with_number : (test : ℕ → Payload → Bool) (n : ℕ) (o : Option Payload) → PayloadPasses (λ p. test n p) o → Passes (is_variant test) (option_map (λ p. VariantValue n p) o)
with_number test n None h = tt
with_number test n (Some p) h = h

variant_passes : (read : ℕ → Untyped → Option Payload) (test : ℕ → Payload → Bool) (o : Option Chosen) → ChosenTextual o
    → ((n : ℕ) (u : Untyped) → is_textual u ≡ true → PayloadPasses (λ p. test n p) (read n u)) → Passes (is_variant test) (variant_of read o)
variant_passes read test None h all = tt
variant_passes read test (Some (n, u)) h all = with_number test n (read n u) (all n u h)

-- ---- flags

abbrev IsWithin : ℕ → ℕ → Option ℕ → Type 0
IsWithin bit n None = Unit {0}
IsWithin bit n (Some bits) = bits + bit ≤ bit * 2 ^ n

-- what is left of the greatest number
doubled : (bit n : ℕ) → bit * 2 ^ suc n ≡ bit * 2 * 2 ^ n
doubled bit n = ap (λ k. bit * k) (pow-suc 2 n) ∙ grind arith

one_at_least : (n : ℕ) → 1 ≤ 2 ^ n
one_at_least zero = omega arith
one_at_least (suc n) = let h = one_at_least n in let e : 2 ^ suc n ≡ 2 ^ n * 2 = pow-suc 2 n in omega (arith, h, e)

times_some : (bit k : ℕ) → 1 ≤ k → bit ≤ bit * k
times_some bit zero h = absurd (omega arith)
times_some bit (suc k) h = rw (mul-suc bit k) (omega arith)

set_within : (bit n : ℕ) (o : Option ℕ) → IsWithin (bit * 2) n o → IsWithin bit (suc n) (option_map (λ bits. bit + bits) o)
set_within bit n None h = tt
set_within bit n (Some bits) h = let e = doubled bit n in omega (arith, h, e)

unset_within : (bit n : ℕ) (o : Option ℕ) → IsWithin (bit * 2) n o → IsWithin bit (suc n) o
unset_within bit n None h = tt
unset_within bit n (Some bits) h = let e = doubled bit n in omega (arith, h, e)

one_label : (b : Bool) (bit n : ℕ) (o p : Option ℕ) → IsWithin (bit * 2) n o → IsWithin (bit * 2) n p → IsWithin bit (suc n) (if b then option_map (λ bits. bit + bits) o else p)
one_label true bit n o p h k = set_within bit n o h
one_label false bit n o p h k = unset_within bit n p k

flags_within : (bit : ℕ) (labels : List Name) (items : Items) → IsWithin bit (length labels) (flags_from bit labels items)
flags_within bit [] NoItems = let h = times_some bit (2 ^ 0) (one_at_least 0) in omega (arith, h)
flags_within bit (l ∷ labels) NoItems = let h = times_some bit (2 ^ suc (length labels)) (one_at_least (suc (length labels))) in omega (arith, h)
flags_within bit [] (Item u rest) = tt
flags_within bit (l ∷ labels) (Item (Text name) rest) =
    one_label (bytes_eq l name) bit (length labels) (flags_from (bit * 2) labels rest) (flags_from (bit * 2) labels (Item (Text name) rest))
    (flags_within (bit * 2) labels rest) (flags_within (bit * 2) labels (Item (Text name) rest))
flags_within bit (l ∷ labels) (Item Null rest) = tt
flags_within bit (l ∷ labels) (Item (Truth b) rest) = tt
flags_within bit (l ∷ labels) (Item (Number n) rest) = tt
flags_within bit (l ∷ labels) (Item Inexact rest) = tt
flags_within bit (l ∷ labels) (Item (Array items) rest) = tt
flags_within bit (l ∷ labels) (Item (Object _) rest) = tt

flags_of : (n : ℕ) (o : Option ℕ) → IsWithin 1 n o → Passes (is_flags n) (option_map FlagsValue o)
flags_of n None h = tt
flags_of n (Some bits) h = lt-ltb bits (2 ^ n) (let one : 1 * 2 ^ n ≡ 2 ^ n = grind arith in omega (arith, h, one))

flags_pass : (labels : List Name) (u : Untyped) → Passes (is_flags (length labels)) (flags_in labels u)
flags_pass labels Null = tt
flags_pass labels (Truth b) = tt
flags_pass labels (Number n) = tt
flags_pass labels Inexact = tt
flags_pass labels (Text bytes) = tt
flags_pass labels (Array items) = flags_of (length labels) (flags_from 1 labels items) (flags_within 1 labels items)
flags_pass labels (Object _) = tt

-- ---- a value by its type

none_passes : (items : Items) → AllPass is_none_left (no_item items)
none_passes NoItems = refl
none_passes (Item u us) = tt

no_member_passes : (ms : Members) → AllPass is_none_left (no_member ms)
no_member_passes NoMembers = refl
no_member_passes (Member name u ms) = tt

first_passes : (read : Untyped → Option PlainValue) (rest : Items → Option PlainValues) (first : PlainValue → Bool) (later : PlainValues → Bool) (items : Items) → are_textual items ≡ true
    → ((u : Untyped) → is_textual u ≡ true → Passes first (read u)) → ((us : Items) → are_textual us ≡ true → AllPass later (rest us))
    → AllPass (λ vs. first_and_rest first later vs) (first_item read rest items)
first_passes read rest first later NoItems h one all = tt
first_passes read rest first later (Item u us) h one all =
    let p = and_parts (is_textual u) (are_textual us) h in
    both_parts first later (read u) (rest us) (one u p.0) (all us p.1)

at_case : (this : Untyped → Option Payload) (later : ℕ → Untyped → Option Payload) (test : Payload → Bool) (others : ℕ → Payload → Bool) (n : ℕ) (u : Untyped)
    → PayloadPasses test (this u) → ((m : ℕ) → PayloadPasses (λ p. others m p) (later m u)) → PayloadPasses (λ p. case_or_later test others n p) (case_at this later n u)
at_case this later test others zero u h all = h
at_case this later test others (suc n) u h all = all n

mutual
  pub reading_passes : (ty : Plain) (u : Untyped) → is_textual u ≡ true → Passes (λ v. is_of ty v) (reading ty u)
  reading_passes BoolType u h = truth_passes u
  reading_passes (SignedType width) u h = integer_passes (neg_ℤ (pos (negatives width))) (pos (negatives width)) u
  reading_passes (UnsignedType width) u h = integer_passes (pos 0) (pos (integers width)) u
  reading_passes CharType u h = char_passes u h
  reading_passes StringType u h = text_passes u
  reading_passes (ListType item) u h = list_passes (λ v. reading item v) (λ v. is_of item v) u h (λ v k. reading_passes item v k)
  reading_passes (RecordType form fields) u h =
      form_passes form (λ items. parts_reading fields items) (λ ms. fields_reading fields ms) (λ vs. are_of fields vs) u h (λ items k. parts_pass fields items k) (λ ms k. fields_pass fields ms k)
  reading_passes (VariantType form cases) u h =
      variant_passes (λ n v. case_reading cases n v) (λ n p. is_of_case cases n p) (chosen form cases u) (chosen_textual form cases u h) (λ n v k. case_passes cases n v k)
  reading_passes (FlagsType labels) u h = flags_pass labels u
  reading_passes (OwnType r) u h = handle_of_passes (integer_in (pos 0) (pos (2 ^ 32)) u)
  reading_passes (BorrowType r) u h = handle_of_passes (integer_in (pos 0) (pos (2 ^ 32)) u)

  pub parts_pass : (parts : Parts) (items : Items) → are_textual items ≡ true → AllPass (λ vs. are_of parts vs) (parts_reading parts items)
  parts_pass NoParts items h = none_passes items
  parts_pass (Part name ty rest) items h =
      first_passes (λ u. reading ty u) (λ us. parts_reading rest us) (λ v. is_of ty v) (λ vs. are_of rest vs) items h (λ u k. reading_passes ty u k) (λ us k. parts_pass rest us k)
  parts_pass (Bare name rest) items h = parts_pass rest items h

  fields_pass : (parts : Parts) (ms : Members) → members_textual ms ≡ true → AllPass (λ vs. are_of parts vs) (fields_reading parts ms)
  fields_pass NoParts ms h = no_member_passes ms
  fields_pass (Part name ty rest) ms h =
      named_passes (λ u. reading ty u) (λ others. fields_reading rest others) (λ v. is_of ty v) (λ vs. are_of rest vs) (take_member name ms) (take_textual name ms h)
      (λ u k. reading_passes ty u k) (λ us k. fields_pass rest us k)
  fields_pass (Bare name rest) ms h = fields_pass rest ms h

  case_passes : (parts : Parts) (n : ℕ) (u : Untyped) → is_textual u ≡ true → PayloadPasses (λ p. is_of_case parts n p) (case_reading parts n u)
  case_passes NoParts n u h = tt
  case_passes (Part name ty rest) n u h =
      at_case (λ v. payload_in (reading ty v)) (λ m v. case_reading rest m v) (λ p. is_with (λ v. is_of ty v) p) (λ m p. is_of_case rest m p) n u
      (payload_passes (λ v. is_of ty v) (reading ty u) (reading_passes ty u h)) (λ m. case_passes rest m u h)
  case_passes (Bare name rest) n u h =
      at_case nothing_in (λ m v. case_reading rest m v) is_without (λ m p. is_of_case rest m p) n u (nothing_passes u) (λ m. case_passes rest m u h)

-- what is read of JSON that is in memory, whose texts are UTF-8, has its type
pub typed : (ty : Plain) (u : Untyped) (v : PlainValue) → is_textual u ≡ true → reading ty u ≡ Some v → is_of ty v ≡ true
typed ty u v h is = subst (λ o. Passes (λ x. is_of ty x) o) is (reading_passes ty u h)
