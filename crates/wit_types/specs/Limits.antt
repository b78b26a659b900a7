-- What validation asks of each type that is defined: nothing in it is empty (Component Model, Binary.md, "Type Definitions"), and
-- it is neither deep nor large, which are limits of this product's own.
use Rattle.std.specs.Prelude.{ℕ, ◌+◌, ◌<◌, ◌≤◌, max, length}
use Rattle.wit_types.specs.declared.types.WitType.{WitType}
use Rattle.wit_types.specs.Plain.{Plain, Parts, ListType, RecordType, VariantType, FlagsType, End, More, Bare, plain}
use Rattle.wit_types.specs.Layout.{count}

-- the parts of a type when it is written out: itself, and those of each type in it
abbrev mutual
  pub parts : Plain → ℕ
  parts (ListType item) = parts item + 1
  parts (RecordType _ fields) = all_parts fields + 1
  parts (VariantType _ cases) = all_parts cases + 1
  parts _ = 1

  pub all_parts : Parts → ℕ
  all_parts End = 0
  all_parts (More _ ty rest) = parts ty + all_parts rest
  all_parts (Bare _ rest) = all_parts rest

-- how many types stand in one another
abbrev mutual
  pub depth : Plain → ℕ
  depth (ListType item) = depth item + 1
  depth (RecordType _ fields) = greatest_depth fields + 1
  depth (VariantType _ cases) = greatest_depth cases + 1
  depth _ = 1

  pub greatest_depth : Parts → ℕ
  greatest_depth End = 0
  greatest_depth (More _ ty rest) = max (depth ty) (greatest_depth rest)
  greatest_depth (Bare _ rest) = greatest_depth rest

-- no record, tuple, variant, enum or flags type is empty, and none has more than 32 flags
abbrev mutual
  pub IsFilled : Plain → Type 0
  IsFilled (ListType item) = IsFilled item
  IsFilled (RecordType _ fields) = (0 < count fields) × AreFilled fields
  IsFilled (VariantType _ cases) = (0 < count cases) × AreFilled cases
  IsFilled (FlagsType labels) = (0 < length labels) × (length labels ≤ 32)
  IsFilled _ = Unit {0}

  pub AreFilled : Parts → Type 0
  AreFilled End = Unit {0}
  AreFilled (More _ ty rest) = IsFilled ty × AreFilled rest
  AreFilled (Bare _ rest) = AreFilled rest

-- The type is small enough to be written out.
abbrev pub IsSmall : WitType → Type 0
IsSmall ty = parts (plain ty) ≤ 1000000

-- The type may be defined.
pub record IsWithinLimits (ty : WitType) : Type 0 where
  pub filled : IsFilled (plain ty)
  pub shallow : depth (plain ty) ≤ 100
  pub small : IsSmall ty
