-- Values without types, as a script writes them in JSON, and what one stands for by a type.
use Rattle.std.specs.Prelude.{ℕ, ℤ, pos, neg_ℤ, nat_abs, zero, suc, ◌+◌, ◌*◌, ◌^◌, Bool, List, [], ◌∷◌, chars, codes, Option, Some, None, option_map, if◌then◌else◌}
use Rattle.std.specs.Str.{bytes_eq}
use Rattle.wit_types.specs.Plain.{Name, Plain, Parts, VariantForm, RecordForm, AsRecord, AsTuple, AsVariant, AsEnum, AsOption, AsResult, BoolType, SignedType, UnsignedType, CharType, StringType, ListType, RecordType, VariantType, FlagsType, OwnType, BorrowType, End as NoParts, More as Part, Bare}
use Rattle.wit_types.specs.PlainValue.{PlainValue, PlainValues, Payload, BoolValue, IntValue, CharValue, StringValue, ListValue, RecordValue, VariantValue, FlagsValue, HandleValue, End as NoValues, More as Values, Without, With}
use Rattle.wit_types.specs.HasType.{integers, negatives, is_integer}

mutual
  -- a value of JSON (RFC 8259)
  pub data Untyped : Type 0 where
    Null : Untyped
    Truth : Bool → Untyped
    Number : ℤ → Untyped
    -- a number that isn't written as an integer, or is outside those of 64 bits
    Inexact : Untyped
    Text : (bytes : List ℕ) → Untyped
    Array : (items : Items) → Untyped
    Object : (members : Members) → Untyped

  pub data Items : Type 0 where
    NoItems : Items
    Item : (item : Untyped) → (rest : Items) → Items

  -- members of an object, whose names differ
  pub data Members : Type 0 where
    NoMembers : Members
    Member : (name : Name) → (value : Untyped) → (rest : Members) → Members

-- ---- what is in a value of each form, if it has the form

abbrev pub truth_in : Untyped → Option PlainValue
truth_in (Truth b) = Some (BoolValue b)
truth_in _ = None

-- the value, if it passes
abbrev pub passing : (PlainValue → Bool) → PlainValue → Option PlainValue
passing test value = if test value then Some value else None

-- an integer from low to end - 1
abbrev pub integer_in : ℤ → ℤ → Untyped → Option PlainValue
integer_in low end (Number n) = passing (is_integer low end) (IntValue n)
integer_in low end _ = None

abbrev pub only_char : List ℕ → Option PlainValue
only_char (c ∷ []) = Some (CharValue c)
only_char _ = None

-- a character is a text of one
abbrev pub char_in : Untyped → Option PlainValue
char_in (Text bytes) = only_char (chars bytes)
char_in _ = None

abbrev pub text_in : Untyped → Option PlainValue
text_in (Text bytes) = Some (StringValue bytes)
text_in _ = None

-- a handle is its number
abbrev pub handle_of : Option PlainValue → Option PlainValue
handle_of (Some (IntValue n)) = Some (HandleValue (nat_abs n))
handle_of _ = None

abbrev pub handle_in : Untyped → Option PlainValue
handle_in u = handle_of (integer_in (pos 0) (pos (2 ^ 32)) u)

-- ---- lists, tuples and records

abbrev pub both : Option PlainValue → Option PlainValues → Option PlainValues
both (Some value) (Some values) = Some (Values value values)
both _ _ = None

abbrev pub each_item : (Untyped → Option PlainValue) → Items → Option PlainValues
each_item read NoItems = Some NoValues
each_item read (Item u us) = both (read u) (each_item read us)

abbrev pub list_in : (Untyped → Option PlainValue) → Untyped → Option PlainValue
list_in read (Array items) = option_map ListValue (each_item read items)
list_in read _ = None

abbrev pub no_item : Items → Option PlainValues
no_item NoItems = Some NoValues
no_item (Item _ _) = None

abbrev pub first_item : (Untyped → Option PlainValue) → (Items → Option PlainValues) → Items → Option PlainValues
first_item read rest NoItems = None
first_item read rest (Item u us) = both (read u) (rest us)

-- a tuple is an array with an item for each part
abbrev pub tuple_in : (Items → Option PlainValues) → Untyped → Option PlainValue
tuple_in read (Array items) = option_map RecordValue (read items)
tuple_in read _ = None

-- the member of a name, and the others
abbrev pub taken : Name → Untyped → Option (Untyped × Members) → Option (Untyped × Members)
taken name value None = None
taken name value (Some (u, rest)) = Some (u, Member name value rest)

abbrev pub take_member : Name → Members → Option (Untyped × Members)
take_member name NoMembers = None
take_member name (Member other value rest) = if bytes_eq other name then Some (value, rest) else taken other value (take_member name rest)

abbrev pub no_member : Members → Option PlainValues
no_member NoMembers = Some NoValues
no_member (Member _ _ _) = None

abbrev pub named_member : (Untyped → Option PlainValue) → (Members → Option PlainValues) → Option (Untyped × Members) → Option PlainValues
named_member read rest None = None
named_member read rest (Some (u, others)) = both (read u) (rest others)

-- a record is an object with exactly its fields
abbrev pub record_in : (Members → Option PlainValues) → Untyped → Option PlainValue
record_in read (Object members) = option_map RecordValue (read members)
record_in read _ = None

-- ---- variants, as the number of a case and what is written of its payload

abbrev pub Chosen : Type 0
Chosen = ℕ × Untyped

-- the number of the case with a label
abbrev pub case_named : Name → Parts → Option ℕ
case_named label NoParts = None
case_named label (Part name _ rest) = if bytes_eq name label then Some 0 else option_map suc (case_named label rest)
case_named label (Bare name rest) = if bytes_eq name label then Some 0 else option_map suc (case_named label rest)

abbrev pub with_payload : Untyped → Option ℕ → Option Chosen
with_payload u None = None
with_payload u (Some number) = Some (number, u)

-- the one member of an object
abbrev pub only_member : (Name → Option ℕ) → Members → Option Chosen
only_member number (Member name value NoMembers) = with_payload value (number name)
only_member number _ = None

-- `{"case":V}`, where V is null without a payload
abbrev pub choice_in : (Name → Option ℕ) → Untyped → Option Chosen
choice_in number (Object members) = only_member number members
choice_in number _ = None

-- an enum is its label
abbrev pub label_in : (Name → Option ℕ) → Untyped → Option Chosen
label_in number (Text label) = with_payload Null (number label)
label_in number _ = None

abbrev pub ok_or_err : Name → Option ℕ
ok_or_err name = if bytes_eq name (codes "ok") then Some 0 else if bytes_eq name (codes "err") then Some 1 else None

abbrev pub some_only : Name → Option ℕ
some_only name = if bytes_eq name (codes "some") then Some 1 else None

-- an option is null or `{"some":V}`
abbrev pub option_in : Untyped → Option Chosen
option_in Null = Some (0, Null)
option_in (Object members) = only_member some_only members
option_in _ = None

abbrev pub chosen : VariantForm → Parts → Untyped → Option Chosen
chosen AsVariant cases u = choice_in (λ label. case_named label cases) u
chosen AsEnum cases u = label_in (λ label. case_named label cases) u
chosen AsOption cases u = option_in u
chosen AsResult cases u = choice_in ok_or_err u

abbrev pub nothing_in : Untyped → Option Payload
nothing_in Null = Some Without
nothing_in _ = None

abbrev pub payload_in : Option PlainValue → Option Payload
payload_in v = option_map With v

abbrev pub case_at : (Untyped → Option Payload) → (ℕ → Untyped → Option Payload) → ℕ → Untyped → Option Payload
case_at this later zero u = this u
case_at this later (suc n) u = later n u

abbrev pub variant_of : (ℕ → Untyped → Option Payload) → Option Chosen → Option PlainValue
variant_of read None = None
variant_of read (Some (number, u)) = option_map (λ payload. VariantValue number payload) (read number u)

-- ---- flags, as an array of the labels that are set, in order

-- the bits of labels that stand in this order, the first of them for so much
abbrev pub flags_from : ℕ → List Name → Items → Option ℕ
flags_from bit labels NoItems = Some 0
flags_from bit [] (Item _ _) = None
flags_from bit (label ∷ labels) (Item (Text name) rest) = if bytes_eq label name then option_map (λ bits. bit + bits) (flags_from (bit * 2) labels rest) else flags_from (bit * 2) labels (Item (Text name) rest)
flags_from bit (label ∷ labels) (Item _ rest) = None

abbrev pub flags_in : List Name → Untyped → Option PlainValue
flags_in labels (Array items) = option_map FlagsValue (flags_from 1 labels items)
flags_in labels _ = None

-- ---- the reading of a value by its type

abbrev pub record_by : RecordForm → (Items → Option PlainValues) → (Members → Option PlainValues) → Untyped → Option PlainValue
record_by AsRecord tuple members u = record_in members u
record_by AsTuple tuple members u = tuple_in tuple u

abbrev mutual
  -- the value for which an untyped value stands by a type, if there is one
  pub reading : Plain → Untyped → Option PlainValue
  reading BoolType u = truth_in u
  reading (SignedType width) u = integer_in (neg_ℤ (pos (negatives width))) (pos (negatives width)) u
  reading (UnsignedType width) u = integer_in (pos 0) (pos (integers width)) u
  reading CharType u = char_in u
  reading StringType u = text_in u
  reading (ListType item) u = list_in (λ v. reading item v) u
  reading (RecordType form fields) u = record_by form (λ items. parts_reading fields items) (λ members. fields_reading fields members) u
  reading (VariantType form cases) u = variant_of (λ n v. case_reading cases n v) (chosen form cases u)
  reading (FlagsType labels) u = flags_in labels u
  reading (OwnType _) u = handle_in u
  reading (BorrowType _) u = handle_in u

  -- an item for each part, in order
  pub parts_reading : Parts → Items → Option PlainValues
  parts_reading NoParts items = no_item items
  parts_reading (Part _ ty rest) items = first_item (λ u. reading ty u) (λ others. parts_reading rest others) items
  parts_reading (Bare _ rest) items = parts_reading rest items

  -- a member for each field
  pub fields_reading : Parts → Members → Option PlainValues
  fields_reading NoParts members = no_member members
  fields_reading (Part name ty rest) members = named_member (λ u. reading ty u) (λ others. fields_reading rest others) (take_member name members)
  fields_reading (Bare _ rest) members = fields_reading rest members

  -- the payload of the case with a number
  pub case_reading : Parts → ℕ → Untyped → Option Payload
  case_reading NoParts n u = None
  case_reading (Part _ ty rest) n u = case_at (λ v. payload_in (reading ty v)) (λ m v. case_reading rest m v) n u
  case_reading (Bare _ rest) n u = case_at nothing_in (λ m v. case_reading rest m v) n u
