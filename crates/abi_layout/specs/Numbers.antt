-- Values that are one number, in memory or among flat values (Component Model, CanonicalABI.md, "Loading", "Storing", "Flat Lifting"
-- and "Flat Lowering").
use Rattle.std.specs.Prelude.{ℕ, ℤ, pos, negsuc, ◌-ℤ◌, ◌-◌, ◌%◌, ◌^◌, Bool, true, false, not, nat_eq, nat_lt, if◌then◌else◌, length, Option, Some, None}
use Rattle.wit_types.specs.Plain.{Width, Plain, BoolType, SignedType, UnsignedType, CharType, StringType, ListType, RecordType, VariantType, FlagsType, OwnType, BorrowType}
use Rattle.wit_types.specs.PlainValue.{PlainValue, BoolValue, IntValue, CharValue, StringValue, ListValue, RecordValue, VariantValue, FlagsValue, HandleValue}
use Rattle.wit_types.specs.HasType.{integers, negatives, is_scalar}

-- the integer of a width and sign that has these bits
abbrev pub with_sign : Width → ℕ → ℤ
with_sign width bits = if nat_lt bits (negatives width) then pos bits else (pos bits -ℤ pos (integers width))

-- the value of a number: a narrow integer is its low bits, any number but 0 is true, bits that no flag has are ignored, and a
-- code point must be no surrogate
abbrev pub value_of : Plain → ℕ → Option PlainValue
value_of BoolType n = Some (BoolValue (not (nat_eq n 0)))
value_of (SignedType width) n = Some (IntValue (with_sign width (n % integers width)))
value_of (UnsignedType width) n = Some (IntValue (pos (n % integers width)))
value_of CharType n = if is_scalar n then Some (CharValue n) else None
value_of (FlagsType labels) n = Some (FlagsValue (n % 2 ^ length labels))
value_of (OwnType _) n = Some (HandleValue n)
value_of (BorrowType _) n = Some (HandleValue n)
value_of StringType n = None
value_of (ListType _) n = None
value_of (RecordType _ _) n = None
value_of (VariantType _ _) n = None

-- an integer among that many numbers, a negative one in two's complement
abbrev pub within : ℕ → ℤ → ℕ
within count (pos n) = n % count
within count (negsuc n) = count - 1 - n % count

-- the number of a value, where an integer is one of that many numbers
abbrev pub number_of : ℕ → PlainValue → ℕ
number_of count (BoolValue b) = if b then 1 else 0
number_of count (IntValue n) = within count n
number_of count (CharValue code) = code
number_of count (FlagsValue bits) = bits
number_of count (HandleValue index) = index
number_of count (StringValue _) = 0
number_of count (ListValue _) = 0
number_of count (RecordValue _) = 0
number_of count (VariantValue _ _) = 0

-- a value of the type is one number
abbrev pub is_number : Plain → Bool
is_number StringType = false
is_number (ListType _) = false
is_number (RecordType _ _) = false
is_number (VariantType _ _) = false
is_number BoolType = true
is_number (SignedType _) = true
is_number (UnsignedType _) = true
is_number CharType = true
is_number (FlagsType _) = true
is_number (OwnType _) = true
is_number (BorrowType _) = true
