-- What lifting reads of flat values.
use Rattle.std.specs.Prelude.{ℕ, Bool, true, false, ◌+◌, nat_lt, if◌then◌else◌, List, map, Option, Some, None, option_map}
use Rattle.core_store.specs.declared.value.CoreValue.{CoreValue}
use Rattle.core_store.specs.declared.value.CoreValue.TheVariants.{I32, I64, Ref}
use Rattle.wit_types.specs.Plain.{EightBytes, Plain, Parts, BoolType, SignedType, UnsignedType, CharType, StringType, ListType, RecordType, VariantType, FlagsType, OwnType, BorrowType}
use Rattle.wit_types.specs.PlainValue.{PlainValue, VariantValue, Payload, Without, With}
use Rattle.abi_layout.specs.Loading.{low_word, lift_flat, lift_case}

-- the number of a core value; no reference is a flat value
abbrev pub word_of : CoreValue → ℕ
word_of (I32 n) = n
word_of (I64 n) = n
word_of (Ref r) = 0

abbrev pub words : List CoreValue → List ℕ
words flat = map word_of flat

-- a value of the type is one number of at most 32 bits
abbrev pub is_short : Plain → Bool
is_short BoolType = true
is_short (SignedType EightBytes) = false
is_short (SignedType _) = true
is_short (UnsignedType EightBytes) = false
is_short (UnsignedType _) = true
is_short CharType = true
is_short (FlagsType _) = true
is_short (OwnType _) = true
is_short (BorrowType _) = true
is_short StringType = false
is_short (ListType _) = false
is_short (RecordType _ _) = false
is_short (VariantType _ _) = false

-- the payload of a case that has one of this type, or none
abbrev pub payload_lifted : List ℕ → Option Plain → List ℕ → ℕ → Option Payload
payload_lifted memory None words k = Some Without
payload_lifted memory (Some ty) words k = option_map With (lift_flat memory ty words k)

-- the variant of a case with this payload
abbrev pub case_lifted : List ℕ → ℕ → Option Plain → List ℕ → ℕ → Option PlainValue
case_lifted memory number payload words k = option_map (VariantValue number) (payload_lifted memory payload words k)

-- the variant of these cases from a position on, however its type is written
abbrev pub variant_lifted : List ℕ → Parts → List ℕ → ℕ → Option PlainValue
variant_lifted memory cases words k = option_map (VariantValue (low_word words k)) (lift_case memory cases (low_word words k) words (k + 1))

-- the variant of that many cases without payloads
abbrev pub enum_lifted : ℕ → List ℕ → ℕ → Option PlainValue
enum_lifted labels words k = if nat_lt (low_word words k) labels then Some (VariantValue (low_word words k) Without) else None
