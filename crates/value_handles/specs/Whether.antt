-- Whether values of a type may hold handles.
use Rattle.std.specs.Prelude.{Bool, true, false, ◌||◌}
use Rattle.wit_types.specs.Plain.{Plain, Parts, BoolType, SignedType, UnsignedType, CharType, StringType, ListType, RecordType, VariantType, FlagsType, OwnType, BorrowType, End, More, Bare}

abbrev mutual
  pub has_handles : Plain → Bool
  has_handles BoolType = false
  has_handles (SignedType _) = false
  has_handles (UnsignedType _) = false
  has_handles CharType = false
  has_handles StringType = false
  has_handles (ListType item) = has_handles item
  has_handles (RecordType _ fields) = parts_have_handles fields
  has_handles (VariantType _ cases) = parts_have_handles cases
  has_handles (FlagsType _) = false
  has_handles (OwnType _) = true
  has_handles (BorrowType _) = true

  pub parts_have_handles : Parts → Bool
  parts_have_handles End = false
  parts_have_handles (More _ ty rest) = has_handles ty || parts_have_handles rest
  parts_have_handles (Bare _ rest) = parts_have_handles rest
