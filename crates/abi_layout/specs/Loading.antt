-- The value of a type that lies at a place of a memory (Component Model, CanonicalABI.md, "Loading"), and the one that flat values
-- stand for ("Flat Lifting"); none where that traps. A memory is its bytes. A handle is the index that lies there: which handle
-- of the instance's table it names is not decided here.
use Rattle.std.specs.Prelude.{ℕ, zero, suc, ◌≡◌, ◌+◌, ◌*◌, ◌%◌, ◌^◌, Bool, true, false, ◌&&◌, ◌||◌, nat_eq, nat_le, if◌then◌else◌, List, length, take, drop, slice_index, Option, Some, None, option_map, option_and_then}
use Rattle.std.specs.Str.{is_utf8}
use Rattle.core_memory.specs.Number.{number}
use Rattle.wit_types.specs.Plain.{Plain, Parts, BoolType, SignedType, UnsignedType, CharType, StringType, ListType, RecordType, VariantType, FlagsType, OwnType, BorrowType, End, More, Bare}
use Rattle.wit_types.specs.PlainValue.{PlainValue, PlainValues, Payload, StringValue, ListValue, RecordValue, VariantValue, End as NoValues, More as Values, Without, With}
use Rattle.wit_types.specs.HasType.{is_of}
use Rattle.wit_types.specs.Layout.{alignment, greatest_alignment, discriminant_size, align_to, count, size, flat}
use Rattle.abi_layout.specs.Numbers.{value_of}

-- the integer of that many bytes at a place, the lowest first; none past the end
abbrev pub read : List ℕ → ℕ → ℕ → Option ℕ
read memory at width = if nat_le (at + width) (length memory) then Some (number (take width (drop at memory))) else None

abbrev pub is_aligned : ℕ → ℕ → Bool
is_aligned at align = nat_eq (at % align) 0

-- where the payload of a variant lies in it: after the number of the case, at the greatest alignment of the payloads
abbrev pub payload_offset : Parts → ℕ
payload_offset cases = align_to (discriminant_size (count cases)) (greatest_alignment cases)

-- the first case, or a later one
abbrev pub first_or_later : {A : Type 0} → A → (ℕ → A) → ℕ → A
first_or_later first later zero = first
first_or_later first later (suc n) = later n

-- a value that is one number
abbrev pub number_at : List ℕ → Plain → ℕ → Option PlainValue
number_at memory ty at = option_and_then (value_of ty) (read memory at (size ty))

-- what a place and a length stand for that lie one after the other
abbrev pub range_at : List ℕ → ℕ → (ℕ → ℕ → Option PlainValue) → Option PlainValue
range_at memory at load = option_and_then (λ place. option_and_then (λ len. load place len) (read memory (at + 4) 4)) (read memory at 4)

-- the string of that many bytes at a place: they are within the memory, and UTF-8
abbrev pub string_at : List ℕ → ℕ → ℕ → Option PlainValue
string_at memory place len =
    if nat_le (place + len) (length memory) && is_utf8 (take len (drop place memory)) then Some (StringValue (take len (drop place memory))) else None

-- that many items of one size, one after the other
abbrev pub items_at : (ℕ → Option PlainValue) → ℕ → ℕ → ℕ → Option PlainValues
items_at load size place zero = Some NoValues
items_at load size place (suc n) = option_and_then (λ v. option_map (Values v) (items_at load size (place + size) n)) (load place)

-- the list of that many items at a place: it is aligned, and they are within the memory, also where there are none
abbrev pub list_at : List ℕ → (ℕ → Option PlainValue) → (size align place count : ℕ) → Option PlainValue
list_at memory load size align place count =
    if is_aligned place align && nat_le (place + count * size) (length memory) then option_map ListValue (items_at load size place count) else None

abbrev mutual
  -- the value at a place that is aligned and has room for it
  pub loads_at : List ℕ → Plain → ℕ → Option PlainValue
  loads_at memory BoolType at = number_at memory BoolType at
  loads_at memory (SignedType width) at = number_at memory (SignedType width) at
  loads_at memory (UnsignedType width) at = number_at memory (UnsignedType width) at
  loads_at memory CharType at = number_at memory CharType at
  loads_at memory StringType at = range_at memory at (λ place len. string_at memory place len)
  loads_at memory (ListType item) at = range_at memory at (λ place len. list_at memory (λ p. loads_at memory item p) (size item) (alignment item) place len)
  loads_at memory (RecordType _ fields) at = option_map RecordValue (fields_at memory fields at 0)
  loads_at memory (VariantType _ cases) at =
      option_and_then (λ n. option_map (VariantValue n) (case_at memory cases n (at + payload_offset cases))) (read memory at (discriminant_size (count cases)))
  loads_at memory (FlagsType labels) at = number_at memory (FlagsType labels) at
  loads_at memory (OwnType resource) at = number_at memory (OwnType resource) at
  loads_at memory (BorrowType resource) at = number_at memory (BorrowType resource) at

  -- the fields of a record at a place, of which the first lies at this offset in it, or after it
  pub fields_at : List ℕ → Parts → ℕ → ℕ → Option PlainValues
  fields_at memory End at offset = Some NoValues
  fields_at memory (More _ ty rest) at offset =
      option_and_then (λ v. option_map (Values v) (fields_at memory rest at (align_to offset (alignment ty) + size ty))) (loads_at memory ty (at + align_to offset (alignment ty)))
  fields_at memory (Bare _ rest) at offset = fields_at memory rest at offset

  -- the payload of the case of this number; none where there is no such case
  pub case_at : List ℕ → Parts → ℕ → ℕ → Option Payload
  case_at memory End n at = None
  case_at memory (More _ ty rest) n at = first_or_later (option_map With (loads_at memory ty at)) (λ m. case_at memory rest m at) n
  case_at memory (Bare _ rest) n at = first_or_later (Some Without) (λ m. case_at memory rest m at) n

-- The value at a place, which is tested for alignment and bounds.
abbrev pub loads : List ℕ → Plain → ℕ → Option PlainValue
loads memory ty at = if is_aligned at (alignment ty) && nat_le (at + size ty) (length memory) then loads_at memory ty at else None

-- ---- flat values

-- the flat value at a position that is wanted as an i32: the low bits, since an i64 holds it where payloads are joined
abbrev pub low_word : List ℕ → ℕ → ℕ
low_word words k = slice_index words k % 2 ^ 32

abbrev mutual
  -- The value that the flat values from a position on stand for.
  pub lift_flat : List ℕ → Plain → List ℕ → ℕ → Option PlainValue
  lift_flat memory BoolType words k = value_of BoolType (low_word words k)
  lift_flat memory (SignedType width) words k = value_of (SignedType width) (slice_index words k)
  lift_flat memory (UnsignedType width) words k = value_of (UnsignedType width) (slice_index words k)
  lift_flat memory CharType words k = value_of CharType (low_word words k)
  lift_flat memory StringType words k = string_at memory (low_word words k) (low_word words (k + 1))
  lift_flat memory (ListType item) words k =
      list_at memory (λ p. loads_at memory item p) (size item) (alignment item) (low_word words k) (low_word words (k + 1))
  lift_flat memory (RecordType _ fields) words k = option_map RecordValue (lift_fields memory fields words k)
  lift_flat memory (VariantType _ cases) words k = option_map (VariantValue (low_word words k)) (lift_case memory cases (low_word words k) words (k + 1))
  lift_flat memory (FlagsType labels) words k = value_of (FlagsType labels) (low_word words k)
  lift_flat memory (OwnType resource) words k = value_of (OwnType resource) (low_word words k)
  lift_flat memory (BorrowType resource) words k = value_of (BorrowType resource) (low_word words k)

  -- one field after another
  pub lift_fields : List ℕ → Parts → List ℕ → ℕ → Option PlainValues
  lift_fields memory End words k = Some NoValues
  lift_fields memory (More _ ty rest) words k =
      option_and_then (λ v. option_map (Values v) (lift_fields memory rest words (k + length (flat ty)))) (lift_flat memory ty words k)
  lift_fields memory (Bare _ rest) words k = lift_fields memory rest words k

  pub lift_case : List ℕ → Parts → ℕ → List ℕ → ℕ → Option Payload
  lift_case memory End n words k = None
  lift_case memory (More _ ty rest) n words k = first_or_later (option_map With (lift_flat memory ty words k)) (λ m. lift_case memory rest m words k) n
  lift_case memory (Bare _ rest) n words k = first_or_later (Some Without) (λ m. lift_case memory rest m words k) n

abbrev mutual
  -- A value of the type may hold a string or a list, which lie in memory also where the value is passed by flat values.
  pub has_ranges : Plain → Bool
  has_ranges BoolType = false
  has_ranges (SignedType _) = false
  has_ranges (UnsignedType _) = false
  has_ranges CharType = false
  has_ranges StringType = true
  has_ranges (ListType _) = true
  has_ranges (RecordType _ fields) = parts_have_ranges fields
  has_ranges (VariantType _ cases) = parts_have_ranges cases
  has_ranges (FlagsType _) = false
  has_ranges (OwnType _) = false
  has_ranges (BorrowType _) = false

  pub parts_have_ranges : Parts → Bool
  parts_have_ranges End = false
  parts_have_ranges (More _ ty rest) = has_ranges ty || parts_have_ranges rest
  parts_have_ranges (Bare _ rest) = parts_have_ranges rest

-- What is loaded, and what is lifted, has the type.
abbrev pub LoadedHasType : Type 0
LoadedHasType = (memory : List ℕ) (ty : Plain) (at : ℕ) (v : PlainValue) → loads memory ty at ≡ Some v → is_of ty v ≡ true

abbrev pub LiftedHasType : Type 0
LiftedHasType = (memory : List ℕ) (ty : Plain) (words : List ℕ) (k : ℕ) (v : PlainValue) → lift_flat memory ty words k ≡ Some v → is_of ty v ≡ true
