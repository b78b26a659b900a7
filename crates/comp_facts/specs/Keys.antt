-- A number for each value type, the same for equal ones and seldom the same for others, by which a type is found again: a polynomial
-- of what it is made of, modulo 2^64.
use Rattle.std.specs.Prelude.{ℕ, ◌+◌, ◌*◌, ◌%◌, ◌^◌, List, [], ◌∷◌}
use Rattle.wit_types.specs.Plain.{Name, RecordForm, AsRecord, AsTuple, VariantForm, AsVariant, AsEnum, AsOption, AsResult, OneByte, TwoBytes, FourBytes, EightBytes, Plain, Parts, BoolType, SignedType, UnsignedType, CharType, StringType, ListType, RecordType, VariantType, FlagsType, OwnType, BorrowType, End, More, Bare}

-- an odd number without a pattern, near 2^64 divided by the golden ratio
abbrev pub factor : ℕ
factor = 11400714819323198485

-- one number more
unfoldable pub and_number : ℕ → ℕ → ℕ
and_number key n = (key * factor % 2 ^ 64 + n) % 2 ^ 64

abbrev pub and_bytes : ℕ → Name → ℕ
and_bytes key [] = key
and_bytes key (b ∷ bs) = and_bytes (and_number key b) bs

-- a name, and its end
abbrev pub and_name : ℕ → Name → ℕ
and_name key name = and_number (and_bytes key name) 256

abbrev pub and_names : ℕ → List Name → ℕ
and_names key [] = key
and_names key (name ∷ names) = and_names (and_name key name) names

abbrev pub record_number : RecordForm → ℕ
record_number AsRecord = 16
record_number AsTuple = 17

abbrev pub variant_number : VariantForm → ℕ
variant_number AsVariant = 18
variant_number AsEnum = 19
variant_number AsOption = 20
variant_number AsResult = 21

abbrev mutual
  pub key_of : Plain → ℕ
  key_of BoolType = 1
  key_of (SignedType OneByte) = 2
  key_of (UnsignedType OneByte) = 3
  key_of (SignedType TwoBytes) = 4
  key_of (UnsignedType TwoBytes) = 5
  key_of (SignedType FourBytes) = 6
  key_of (UnsignedType FourBytes) = 7
  key_of (SignedType EightBytes) = 8
  key_of (UnsignedType EightBytes) = 9
  key_of CharType = 10
  key_of StringType = 11
  key_of (OwnType resource) = and_number 12 resource
  key_of (BorrowType resource) = and_number 13 resource
  key_of (FlagsType labels) = and_names 14 labels
  key_of (ListType item) = and_number 15 (key_of item)
  key_of (RecordType form fields) = and_number (and_parts 0 fields) (record_number form)
  key_of (VariantType form cases) = and_number (and_parts 0 cases) (variant_number form)

  -- each part more: its name, and then its type, or 0 where it has none
  pub and_parts : ℕ → Parts → ℕ
  and_parts key End = key
  and_parts key (More name ty rest) = and_parts (and_number (and_name key name) (key_of ty)) rest
  and_parts key (Bare name rest) = and_parts (and_number (and_name key name) 0) rest

abbrev pub key_of_parts : Parts → ℕ
key_of_parts ps = and_parts 0 ps

-- ---- the keys of a type's own parts, in order

abbrev pub keys_in : Parts → List ℕ
keys_in End = []
keys_in (More name ty rest) = key_of ty ∷ keys_in rest
keys_in (Bare name rest) = keys_in rest

abbrev pub keys_of : Plain → List ℕ
keys_of (ListType item) = key_of item ∷ []
keys_of (RecordType form fields) = keys_in fields
keys_of (VariantType form cases) = keys_in cases
keys_of _ = []
