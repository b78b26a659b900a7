-- Where a value of a type lies in memory, and the core types by which it is passed (Canonical ABI, "Alignment",
-- "Element Size" and "Flattening").
use Rattle.std.specs.Prelude.{ℕ, ◌+◌, ◌*◌, ◌-◌, ◌/◌, max, nat_le, if◌then◌else◌, List, [], ◌∷◌, ◌++◌, length}
use Rattle.virt_base.specs.declared.core_type.CoreType.{CoreType}
use Rattle.virt_base.specs.declared.core_type.CoreType.TheVariants.{I32, I64}
use Rattle.wit_types.specs.declared.types.WitType.{WitType}
use Rattle.wit_types.specs.Plain.{Width, OneByte, TwoBytes, FourBytes, EightBytes, Plain, Parts, BoolType, SignedType, UnsignedType, CharType, StringType, ListType, RecordType, VariantType, FlagsType, OwnType, BorrowType, End, More, Bare, plain}

abbrev pub bytes : Width → ℕ
bytes OneByte = 1
bytes TwoBytes = 2
bytes FourBytes = 4
bytes EightBytes = 8

-- the bytes of the number of a case, of that many cases
abbrev pub discriminant_size : ℕ → ℕ
discriminant_size n = if nat_le n 256 then 1 else (if nat_le n 65536 then 2 else 4)

-- the bytes of that many flags
abbrev pub flags_size : ℕ → ℕ
flags_size n = if nat_le n 8 then 1 else (if nat_le n 16 then 2 else 4)

-- the least multiple of the alignment that is not below
abbrev pub align_to : ℕ → ℕ → ℕ
align_to at by = (at + (by - 1)) / by * by

abbrev pub count : Parts → ℕ
count End = 0
count (More _ _ rest) = count rest + 1
count (Bare _ rest) = count rest + 1

-- ---- alignment

abbrev mutual
  pub alignment : Plain → ℕ
  alignment BoolType = 1
  alignment (SignedType width) = bytes width
  alignment (UnsignedType width) = bytes width
  alignment CharType = 4
  alignment StringType = 4
  alignment (ListType _) = 4
  alignment (RecordType _ fields) = greatest_alignment fields
  alignment (VariantType _ cases) = max (discriminant_size (count cases)) (greatest_alignment cases)
  alignment (FlagsType labels) = flags_size (length labels)
  alignment (OwnType _) = 4
  alignment (BorrowType _) = 4

  pub greatest_alignment : Parts → ℕ
  greatest_alignment End = 1
  greatest_alignment (More _ ty rest) = max (alignment ty) (greatest_alignment rest)
  greatest_alignment (Bare _ rest) = greatest_alignment rest

-- ---- size

-- a discriminant, then a payload at the greatest alignment of the payloads, with room for the greatest
abbrev pub variant_size : (discriminant payload_alignment payload_size : ℕ) → ℕ
variant_size discriminant payload_alignment payload_size = align_to (align_to discriminant payload_alignment + payload_size) (max discriminant payload_alignment)

abbrev mutual
  pub size : Plain → ℕ
  size BoolType = 1
  size (SignedType width) = bytes width
  size (UnsignedType width) = bytes width
  size CharType = 4
  size StringType = 8
  size (ListType _) = 8
  size (RecordType _ fields) = align_to (end_of fields 0) (greatest_alignment fields)
  size (VariantType _ cases) = variant_size (discriminant_size (count cases)) (greatest_alignment cases) (greatest_size cases)
  size (FlagsType labels) = flags_size (length labels)
  size (OwnType _) = 4
  size (BorrowType _) = 4

  -- where the fields end of which the first lies at the place, or after it
  pub end_of : Parts → ℕ → ℕ
  end_of End at = at
  end_of (More _ ty rest) at = end_of rest (align_to at (alignment ty) + size ty)
  end_of (Bare _ rest) at = end_of rest at

  pub greatest_size : Parts → ℕ
  greatest_size End = 0
  greatest_size (More _ ty rest) = max (size ty) (greatest_size rest)
  greatest_size (Bare _ rest) = greatest_size rest

-- ---- flat types

abbrev pub flat_integer : Width → List CoreType
flat_integer EightBytes = I64 ∷ []
flat_integer _ = I32 ∷ []

-- what stands for a value of either core type
abbrev pub join_one : CoreType → CoreType → CoreType
join_one I32 I32 = I32
join_one _ _ = I64

abbrev pub join : List CoreType → List CoreType → List CoreType
join [] ys = ys
join (x ∷ xs) [] = x ∷ xs
join (x ∷ xs) (y ∷ ys) = join_one x y ∷ join xs ys

abbrev mutual
  pub flat : Plain → List CoreType
  flat BoolType = I32 ∷ []
  flat (SignedType width) = flat_integer width
  flat (UnsignedType width) = flat_integer width
  flat CharType = I32 ∷ []
  flat StringType = I32 ∷ I32 ∷ []
  flat (ListType _) = I32 ∷ I32 ∷ []
  flat (RecordType _ fields) = flat_fields fields
  flat (VariantType _ cases) = I32 ∷ flat_cases cases
  flat (FlagsType _) = I32 ∷ []
  flat (OwnType _) = I32 ∷ []
  flat (BorrowType _) = I32 ∷ []

  -- one field after another
  pub flat_fields : Parts → List CoreType
  flat_fields End = []
  flat_fields (More _ ty rest) = flat ty ++ flat_fields rest
  flat_fields (Bare _ rest) = flat_fields rest

  -- the payloads joined
  pub flat_cases : Parts → List CoreType
  flat_cases End = []
  flat_cases (More _ ty rest) = join (flat ty) (flat_cases rest)
  flat_cases (Bare _ rest) = flat_cases rest

-- ---- of types as they are written

abbrev pub align_of : WitType → ℕ
align_of ty = alignment (plain ty)

abbrev pub size_of : WitType → ℕ
size_of ty = size (plain ty)

abbrev pub flat_of : WitType → List CoreType
flat_of ty = flat (plain ty)
