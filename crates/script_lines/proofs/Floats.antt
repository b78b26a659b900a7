-- What is written of a value has no float, so its text is known byte for byte.
use Rattle.std.proofs.Common.{◌≡◌, ℕ, ℤ, zero, suc, pos, negsuc, ◌%◌, ◌/◌, List, [], ◌∷◌, refl, Bool, true, false, ◌||◌, Less, Equal, Greater, Ordering, nat_cmp}
use Rattle.std.specs.Prelude.{Option, Some, None, codes, if◌then◌else◌, ◌==◌}
use Rattle.std.specs.Ordering.{match_ordering}
use Rattle.std.specs.Cmp.Lexicographic.{slice_cmp}
use Rattle.serde_json.specs.Data as json
use Rattle.serde_json.specs.Find.{of_integer, is_float}
use Rattle.serde_json.specs.Written.{has_float, items_have_float, members_have_float}
use Rattle.wit_types.specs.Plain.{Name, Plain, Parts, VariantForm, RecordForm, AsRecord, AsTuple, AsVariant, AsEnum, AsOption, AsResult, BoolType, SignedType, UnsignedType, CharType, StringType, ListType, RecordType, VariantType, FlagsType, OwnType, BorrowType, End, More, Bare}
use Rattle.wit_types.specs.PlainValue.{PlainValue, PlainValues, Payload, BoolValue, IntValue, CharValue, StringValue, ListValue, RecordValue, VariantValue, FlagsValue, HandleValue, End as NoValues, More as Values, Without, With}
use Rattle.script_lines.specs.Shown.{truth_shown, integer_shown, char_shown, text_shown, handle_shown, each_shown, list_shown, part_shown, field_shown, record_shown, one_member, labelled, label_at, payload_shown, case_or_later_shown, choice_shown, variant_shown, labels_set, flags_shown, shown, parts_shown, fields_shown, case_shown}

abbrev HasNone : json.Data → Type 0
HasNone d = has_float d ≡ false

neither : (a b : Bool) → a ≡ false → b ≡ false → (a || b) ≡ false
neither true b h k = h
neither false b h k = k

integer_exact : (n : ℤ) → is_float (of_integer n) ≡ false
integer_exact (pos n) = refl
integer_exact (negsuc n) = refl

if_number : (b : Bool) (n : ℤ) → HasNone (if b then json.number (of_integer n) else json.null)
if_number true n = integer_exact n
if_number false n = refl

truth_exact : (v : PlainValue) → HasNone (truth_shown v)
truth_exact (BoolValue b) = refl
truth_exact (IntValue n) = refl
truth_exact (CharValue n) = refl
truth_exact (StringValue n) = refl
truth_exact (ListValue n) = refl
truth_exact (RecordValue n) = refl
truth_exact (VariantValue n p) = refl
truth_exact (FlagsValue n) = refl
truth_exact (HandleValue n) = refl

number_exact : (v : PlainValue) → HasNone (integer_shown v)
number_exact (BoolValue b) = refl
number_exact (IntValue n) = if_number _ n
number_exact (CharValue n) = refl
number_exact (StringValue n) = refl
number_exact (ListValue n) = refl
number_exact (RecordValue n) = refl
number_exact (VariantValue n p) = refl
number_exact (FlagsValue n) = refl
number_exact (HandleValue n) = refl

char_exact : (v : PlainValue) → HasNone (char_shown v)
char_exact (BoolValue b) = refl
char_exact (IntValue n) = refl
char_exact (CharValue n) = refl
char_exact (StringValue n) = refl
char_exact (ListValue n) = refl
char_exact (RecordValue n) = refl
char_exact (VariantValue n p) = refl
char_exact (FlagsValue n) = refl
char_exact (HandleValue n) = refl

text_exact : (v : PlainValue) → HasNone (text_shown v)
text_exact (BoolValue b) = refl
text_exact (IntValue n) = refl
text_exact (CharValue n) = refl
text_exact (StringValue n) = refl
text_exact (ListValue n) = refl
text_exact (RecordValue n) = refl
text_exact (VariantValue n p) = refl
text_exact (FlagsValue n) = refl
text_exact (HandleValue n) = refl

handle_exact : (v : PlainValue) → HasNone (handle_shown v)
handle_exact (BoolValue b) = refl
handle_exact (IntValue n) = refl
handle_exact (CharValue n) = refl
handle_exact (StringValue n) = refl
handle_exact (ListValue n) = refl
handle_exact (RecordValue n) = refl
handle_exact (VariantValue n p) = refl
handle_exact (FlagsValue n) = refl
handle_exact (HandleValue n) = refl

each_exact : (show : PlainValue → json.Data) → ((v : PlainValue) → HasNone (show v)) → (vs : PlainValues) → items_have_float (each_shown show vs) ≡ false
each_exact show all NoValues = refl
each_exact show all (Values v vs) = neither (has_float (show v)) (items_have_float (each_shown show vs)) (all v) (each_exact show all vs)

list_exact : (show : PlainValue → json.Data) → ((v : PlainValue) → HasNone (show v)) → (v : PlainValue) → HasNone (list_shown show v)
list_exact show all (BoolValue b) = refl
list_exact show all (IntValue n) = refl
list_exact show all (CharValue n) = refl
list_exact show all (StringValue n) = refl
list_exact show all (ListValue vs) = each_exact show all vs
list_exact show all (RecordValue n) = refl
list_exact show all (VariantValue n p) = refl
list_exact show all (FlagsValue n) = refl
list_exact show all (HandleValue n) = refl

part_exact : (show : PlainValue → json.Data) (rest : PlainValues → json.Items) → ((v : PlainValue) → HasNone (show v)) → ((vs : PlainValues) → items_have_float (rest vs) ≡ false)
    → (vs : PlainValues) → items_have_float (part_shown show rest vs) ≡ false
part_exact show rest all more NoValues = refl
part_exact show rest all more (Values v vs) = neither (has_float (show v)) (items_have_float (rest vs)) (all v) (more vs)

or_first : (a b : Bool) → (a || b) ≡ false → a ≡ false
or_first true b h = h
or_first false b h = refl

or_second : (a b : Bool) → (a || b) ≡ false → b ≡ false
or_second true b h = absurd cc
or_second false b h = h

-- a member more has no float where it has none
put_at : (o : Ordering) (k l : Name) (d e : json.Data) (ms : json.Members) → HasNone d → members_have_float (json.member l e ms) ≡ false → members_have_float (json.put k d ms) ≡ false
    → members_have_float (match_ordering o (json.member k d (json.member l e ms)) (json.member l d ms) (json.member l e (json.put k d ms))) ≡ false
put_at Less k l d e ms h there more = neither (has_float d) _ h there
put_at Equal k l d e ms h there more = neither (has_float d) (members_have_float ms) h (or_second (has_float e) (members_have_float ms) there)
put_at Greater k l d e ms h there more = neither (has_float e) _ (or_first (has_float e) (members_have_float ms) there) more

put_exact : (k : Name) (d : json.Data) (ms : json.Members) → HasNone d → members_have_float ms ≡ false → members_have_float (json.put k d ms) ≡ false
put_exact k d json.no_members h there = neither (has_float d) false h refl
put_exact k d (json.member l e ms) h there =
    put_at (slice_cmp nat_cmp k l) k l d e ms h there (put_exact k d ms h (or_second (has_float e) (members_have_float ms) there))

field_exact : (name : Name) (show : PlainValue → json.Data) (rest : PlainValues → json.Members → json.Members) → ((v : PlainValue) → HasNone (show v))
    → ((vs : PlainValues) (ms : json.Members) → members_have_float ms ≡ false → members_have_float (rest vs ms) ≡ false)
    → (vs : PlainValues) (there : json.Members) → members_have_float there ≡ false → members_have_float (field_shown name show rest vs there) ≡ false
field_exact name show rest all more NoValues there h = h
field_exact name show rest all more (Values v vs) there h = more vs (json.put name (show v) there) (put_exact name (show v) there (all v) h)

record_exact : (form : RecordForm) (parts : PlainValues → json.Items) (fields : PlainValues → json.Members → json.Members)
    → ((vs : PlainValues) → items_have_float (parts vs) ≡ false) → ((vs : PlainValues) (ms : json.Members) → members_have_float ms ≡ false → members_have_float (fields vs ms) ≡ false)
    → (v : PlainValue) → HasNone (record_shown form parts fields v)
record_exact AsTuple parts fields all more (RecordValue vs) = all vs
record_exact AsRecord parts fields all more (RecordValue vs) = more vs json.no_members refl
record_exact AsTuple parts fields all more (BoolValue b) = refl
record_exact AsTuple parts fields all more (IntValue n) = refl
record_exact AsTuple parts fields all more (CharValue n) = refl
record_exact AsTuple parts fields all more (StringValue n) = refl
record_exact AsTuple parts fields all more (ListValue n) = refl
record_exact AsTuple parts fields all more (VariantValue n p) = refl
record_exact AsTuple parts fields all more (FlagsValue n) = refl
record_exact AsTuple parts fields all more (HandleValue n) = refl
record_exact AsRecord parts fields all more (BoolValue b) = refl
record_exact AsRecord parts fields all more (IntValue n) = refl
record_exact AsRecord parts fields all more (CharValue n) = refl
record_exact AsRecord parts fields all more (StringValue n) = refl
record_exact AsRecord parts fields all more (ListValue n) = refl
record_exact AsRecord parts fields all more (VariantValue n p) = refl
record_exact AsRecord parts fields all more (FlagsValue n) = refl
record_exact AsRecord parts fields all more (HandleValue n) = refl

one_exact : (name : Name) (d : json.Data) → HasNone d → HasNone (one_member name d)
one_exact name d h = neither (has_float d) false h refl

labelled_exact : (show : Name → json.Data) → ((label : Name) → HasNone (show label)) → (o : Option Name) → HasNone (labelled show o)
labelled_exact show all None = refl
labelled_exact show all (Some label) = all label

choice_exact : (form : VariantForm) (cases : Parts) (n : ℕ) (d : json.Data) → HasNone d → HasNone (choice_shown form cases n d)
choice_exact AsVariant cases n d h = labelled_exact (λ label. one_member label d) (λ label. one_exact label d h) (label_at n cases)
choice_exact AsEnum cases n d h = labelled_exact json.string (λ label. refl) (label_at n cases)
choice_exact AsOption cases zero d h = refl
choice_exact AsOption cases (suc zero) d h = one_exact (codes "some") d h
choice_exact AsOption cases (suc (suc n)) d h = refl
choice_exact AsResult cases zero d h = one_exact (codes "ok") d h
choice_exact AsResult cases (suc zero) d h = one_exact (codes "err") d h
choice_exact AsResult cases (suc (suc n)) d h = refl

variant_exact : (choice : ℕ → json.Data → json.Data) (payload : ℕ → Payload → json.Data) → ((n : ℕ) (d : json.Data) → HasNone d → HasNone (choice n d)) → ((n : ℕ) (p : Payload) → HasNone (payload n p))
    → (v : PlainValue) → HasNone (variant_shown choice payload v)
variant_exact choice payload all more (BoolValue b) = refl
variant_exact choice payload all more (IntValue n) = refl
variant_exact choice payload all more (CharValue n) = refl
variant_exact choice payload all more (StringValue n) = refl
variant_exact choice payload all more (ListValue n) = refl
variant_exact choice payload all more (RecordValue n) = refl
variant_exact choice payload all more (VariantValue n p) = all n (payload n p) (more n p)
variant_exact choice payload all more (FlagsValue n) = refl
variant_exact choice payload all more (HandleValue n) = refl

payload_exact : (show : PlainValue → json.Data) → ((v : PlainValue) → HasNone (show v)) → (p : Payload) → HasNone (payload_shown show p)
payload_exact show all Without = refl
payload_exact show all (With v) = all v

case_or_later_exact : (this : Payload → json.Data) (later : ℕ → Payload → json.Data) → ((p : Payload) → HasNone (this p)) → ((n : ℕ) (p : Payload) → HasNone (later n p))
    → (n : ℕ) (p : Payload) → HasNone (case_or_later_shown this later n p)
case_or_later_exact this later all more zero p = all p
case_or_later_exact this later all more (suc n) p = more n p

label_exact : (b : Bool) (label : Name) (rest : json.Items) → items_have_float rest ≡ false → items_have_float (if b then json.item (json.string label) rest else rest) ≡ false
label_exact true label rest h = h
label_exact false label rest h = h

labels_exact : (labels : List Name) (bits : ℕ) → items_have_float (labels_set labels bits) ≡ false
labels_exact [] bits = refl
labels_exact (label ∷ labels) bits = label_exact (bits % 2 == 1) label (labels_set labels (bits / 2)) (labels_exact labels (bits / 2))

flags_exact : (labels : List Name) (v : PlainValue) → HasNone (flags_shown labels v)
flags_exact labels (BoolValue b) = refl
flags_exact labels (IntValue n) = refl
flags_exact labels (CharValue n) = refl
flags_exact labels (StringValue n) = refl
flags_exact labels (ListValue n) = refl
flags_exact labels (RecordValue n) = refl
flags_exact labels (VariantValue n p) = refl
flags_exact labels (FlagsValue bits) = labels_exact labels bits
flags_exact labels (HandleValue n) = refl

mutual
  pub shown_exact : (ty : Plain) (v : PlainValue) → HasNone (shown ty v)
  shown_exact BoolType v = truth_exact v
  shown_exact (SignedType width) v = number_exact v
  shown_exact (UnsignedType width) v = number_exact v
  shown_exact CharType v = char_exact v
  shown_exact StringType v = text_exact v
  shown_exact (ListType ty) v = list_exact (λ x. shown ty x) (λ x. shown_exact ty x) v
  shown_exact (RecordType form fields) v =
      record_exact form (λ vs. parts_shown fields vs) (λ vs there. fields_shown fields vs there) (λ vs. parts_exact fields vs) (λ vs ms h. fields_exact fields vs ms h) v
  shown_exact (VariantType form cases) v =
      variant_exact (λ n d. choice_shown form cases n d) (λ n p. case_shown cases n p) (λ n d h. choice_exact form cases n d h) (λ n p. case_exact cases n p) v
  shown_exact (FlagsType labels) v = flags_exact labels v
  shown_exact (OwnType r) v = handle_exact v
  shown_exact (BorrowType r) v = handle_exact v

  parts_exact : (parts : Parts) (vs : PlainValues) → items_have_float (parts_shown parts vs) ≡ false
  parts_exact End vs = refl
  parts_exact (More name ty rest) vs = part_exact (λ v. shown ty v) (λ ws. parts_shown rest ws) (λ v. shown_exact ty v) (λ ws. parts_exact rest ws) vs
  parts_exact (Bare name rest) vs = parts_exact rest vs

  fields_exact : (parts : Parts) (vs : PlainValues) (there : json.Members) → members_have_float there ≡ false → members_have_float (fields_shown parts vs there) ≡ false
  fields_exact End vs there h = h
  fields_exact (More name ty rest) vs there h =
      field_exact name (λ v. shown ty v) (λ ws ms. fields_shown rest ws ms) (λ v. shown_exact ty v) (λ ws ms k. fields_exact rest ws ms k) vs there h
  fields_exact (Bare name rest) vs there h = fields_exact rest vs there h

  case_exact : (parts : Parts) (n : ℕ) (p : Payload) → HasNone (case_shown parts n p)
  case_exact End n p = refl
  case_exact (More name ty rest) n p =
      case_or_later_exact (λ q. payload_shown (λ v. shown ty v) q) (λ m q. case_shown rest m q) (λ q. payload_exact (λ v. shown ty v) (λ v. shown_exact ty v) q) (λ m q. case_exact rest m q) n p
  case_exact (Bare name rest) n p = case_or_later_exact (λ q. json.null) (λ m q. case_shown rest m q) (λ q. refl) (λ m q. case_exact rest m q) n p
