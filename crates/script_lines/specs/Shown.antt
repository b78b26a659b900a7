-- How a value is written as JSON by its type: what is written is read again as the same value. In place of what is not of its
-- type stands null.
use Rattle.std.specs.Prelude.{ℕ, ℤ, pos, neg_ℤ, int_le, int_lt, zero, suc, ◌^◌, ◌%◌, ◌/◌, ◌==◌, ◌&&◌, List, [], ◌∷◌, codes, Option, Some, None, if◌then◌else◌}
use Rattle.std.specs.Char.{encode_utf8}
use Rattle.serde_json.specs.Data.{Data, null, boolean, number, string, array, object, unsigned, Items, no_items, item, Members, no_members, member, put}
use Rattle.serde_json.specs.Find.{of_integer}
use Rattle.wit_types.specs.Plain.{Name, Plain, Parts, VariantForm, RecordForm, AsRecord, AsTuple, AsVariant, AsEnum, AsOption, AsResult, BoolType, SignedType, UnsignedType, CharType, StringType, ListType, RecordType, VariantType, FlagsType, OwnType, BorrowType, End, More, Bare}
use Rattle.wit_types.specs.PlainValue.{PlainValue, PlainValues, Payload, BoolValue, IntValue, CharValue, StringValue, ListValue, RecordValue, VariantValue, FlagsValue, HandleValue, End as NoValues, More as Values, Without, With}

abbrev pub truth_shown : PlainValue → Data
truth_shown (BoolValue b) = boolean b
truth_shown _ = null

-- an integer of 64 bits, with or without a sign
abbrev pub number_shown : ℤ → Data
number_shown n = if int_le (neg_ℤ (pos (2 ^ 63))) n && int_lt n (pos (2 ^ 64)) then number (of_integer n) else null

abbrev pub integer_shown : PlainValue → Data
integer_shown (IntValue n) = number_shown n
integer_shown _ = null

-- a character is a text of one
abbrev pub char_shown : PlainValue → Data
char_shown (CharValue code) = string (encode_utf8 code)
char_shown _ = null

abbrev pub text_shown : PlainValue → Data
text_shown (StringValue bytes) = string bytes
text_shown _ = null

-- a handle is its number
abbrev pub handle_shown : PlainValue → Data
handle_shown (HandleValue id) = number (unsigned id)
handle_shown _ = null

-- ---- lists, tuples and records

abbrev pub each_shown : (PlainValue → Data) → PlainValues → Items
each_shown show NoValues = no_items
each_shown show (Values v vs) = item (show v) (each_shown show vs)

abbrev pub list_shown : (PlainValue → Data) → PlainValue → Data
list_shown show (ListValue vs) = array (each_shown show vs)
list_shown show _ = null

abbrev pub part_shown : (PlainValue → Data) → (PlainValues → Items) → PlainValues → Items
part_shown show rest NoValues = no_items
part_shown show rest (Values v vs) = item (show v) (rest vs)

abbrev pub field_shown : Name → (PlainValue → Data) → (PlainValues → Members → Members) → PlainValues → Members → Members
field_shown name show rest NoValues there = there
field_shown name show rest (Values v vs) there = rest vs (put name (show v) there)

-- a tuple is an array, and a record an object with its fields in byte order
abbrev pub record_shown : RecordForm → (PlainValues → Items) → (PlainValues → Members → Members) → PlainValue → Data
record_shown AsTuple parts fields (RecordValue vs) = array (parts vs)
record_shown AsRecord parts fields (RecordValue vs) = object (fields vs no_members)
record_shown form parts fields _ = null

-- ---- variants

abbrev pub one_member : Name → Data → Data
one_member name d = object (member name d no_members)

abbrev pub labelled : (Name → Data) → Option Name → Data
labelled show None = null
labelled show (Some label) = show label

abbrev pub label_at : ℕ → Parts → Option Name
label_at n End = None
label_at zero (More name _ rest) = Some name
label_at zero (Bare name rest) = Some name
label_at (suc n) (More _ _ rest) = label_at n rest
label_at (suc n) (Bare _ rest) = label_at n rest

abbrev pub payload_shown : (PlainValue → Data) → Payload → Data
payload_shown show Without = null
payload_shown show (With v) = show v

abbrev pub case_or_later_shown : (Payload → Data) → (ℕ → Payload → Data) → ℕ → Payload → Data
case_or_later_shown this later zero payload = this payload
case_or_later_shown this later (suc n) payload = later n payload

abbrev pub option_shown : ℕ → Data → Data
option_shown zero d = null
option_shown (suc zero) d = one_member (codes "some") d
option_shown (suc (suc n)) d = null

abbrev pub result_shown : ℕ → Data → Data
result_shown zero d = one_member (codes "ok") d
result_shown (suc zero) d = one_member (codes "err") d
result_shown (suc (suc n)) d = null

-- `{"case":V}`; an enum is its label, an option null or `{"some":V}`, a result `{"ok":V}` or `{"err":V}`
abbrev pub choice_shown : VariantForm → Parts → ℕ → Data → Data
choice_shown AsVariant cases n d = labelled (λ label. one_member label d) (label_at n cases)
choice_shown AsEnum cases n d = labelled string (label_at n cases)
choice_shown AsOption cases n d = option_shown n d
choice_shown AsResult cases n d = result_shown n d

abbrev pub variant_shown : (ℕ → Data → Data) → (ℕ → Payload → Data) → PlainValue → Data
variant_shown choice payload (VariantValue n p) = choice n (payload n p)
variant_shown choice payload _ = null

-- ---- flags, as the labels that are set, in order; the lowest bit is that of the first

abbrev pub labels_set : List Name → ℕ → Items
labels_set [] bits = no_items
labels_set (label ∷ labels) bits = if bits % 2 == 1 then item (string label) (labels_set labels (bits / 2)) else labels_set labels (bits / 2)

abbrev pub flags_shown : List Name → PlainValue → Data
flags_shown labels (FlagsValue bits) = array (labels_set labels bits)
flags_shown labels _ = null

-- ---- a value by its type

abbrev mutual
  pub shown : Plain → PlainValue → Data
  shown BoolType v = truth_shown v
  shown (SignedType _) v = integer_shown v
  shown (UnsignedType _) v = integer_shown v
  shown CharType v = char_shown v
  shown StringType v = text_shown v
  shown (ListType ty) v = list_shown (λ x. shown ty x) v
  shown (RecordType form fields) v = record_shown form (λ vs. parts_shown fields vs) (λ vs there. fields_shown fields vs there) v
  shown (VariantType form cases) v = variant_shown (λ n d. choice_shown form cases n d) (λ n p. case_shown cases n p) v
  shown (FlagsType labels) v = flags_shown labels v
  shown (OwnType _) v = handle_shown v
  shown (BorrowType _) v = handle_shown v

  -- values in order, one for each part
  pub parts_shown : Parts → PlainValues → Items
  parts_shown End vs = no_items
  parts_shown (More _ ty rest) vs = part_shown (λ v. shown ty v) (λ ws. parts_shown rest ws) vs
  parts_shown (Bare _ rest) vs = parts_shown rest vs

  -- members, with one for each field
  pub fields_shown : Parts → PlainValues → Members → Members
  fields_shown End vs there = there
  fields_shown (More name ty rest) vs there = field_shown name (λ v. shown ty v) (λ ws ms. fields_shown rest ws ms) vs there
  fields_shown (Bare _ rest) vs there = fields_shown rest vs there

  -- the payload of the case with a number, which is null without one
  pub case_shown : Parts → ℕ → Payload → Data
  case_shown End n p = null
  case_shown (More _ ty rest) n p = case_or_later_shown (λ q. payload_shown (λ v. shown ty v) q) (λ m q. case_shown rest m q) n p
  case_shown (Bare _ rest) n p = case_or_later_shown (λ q. null) (λ m q. case_shown rest m q) n p
