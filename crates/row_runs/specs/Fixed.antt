-- Types whose values lie in one part of memory, of the type's size, and hold no signed integer.
use Rattle.std.specs.Prelude.{◌<◌, ◌^◌, Bool, true, false, ◌&&◌, nat_le, length, List, [], ◌∷◌}
use Rattle.wit_types.specs.Plain.{Plain, Parts, BoolType, SignedType, UnsignedType, CharType, StringType, ListType, RecordType, VariantType, FlagsType, OwnType, BorrowType, End, More, Bare}
use Rattle.abi_layout.specs.Handles.{Handle}

abbrev mutual
  pub is_fixed : Plain → Bool
  is_fixed BoolType = true
  is_fixed (SignedType _) = false
  is_fixed (UnsignedType _) = true
  is_fixed CharType = true
  is_fixed StringType = false
  is_fixed (ListType _) = false
  is_fixed (RecordType _ fields) = are_fixed fields
  is_fixed (VariantType _ cases) = are_fixed cases && nat_le (Rattle.wit_types.specs.Layout.count cases) 256
  is_fixed (FlagsType labels) = nat_le (length labels) 32
  is_fixed (OwnType _) = true
  is_fixed (BorrowType _) = true

  pub are_fixed : Parts → Bool
  are_fixed End = true
  are_fixed (More _ ty rest) = is_fixed ty && are_fixed rest
  are_fixed (Bare _ rest) = are_fixed rest

-- the handles of a value are numbers of 32 bits
abbrev pub AreSmall : List Handle → Type 0
AreSmall [] = Unit {0}
AreSmall (h ∷ hs) = (h.number < 2 ^ 32) × AreSmall hs

abbrev mutual
  -- a fixed type without handles
  pub is_handle_free : Plain → Bool
  is_handle_free BoolType = true
  is_handle_free (SignedType _) = false
  is_handle_free (UnsignedType _) = true
  is_handle_free CharType = true
  is_handle_free StringType = false
  is_handle_free (ListType _) = false
  is_handle_free (RecordType _ fields) = are_handle_free fields
  is_handle_free (VariantType _ cases) = are_handle_free cases
  is_handle_free (FlagsType labels) = true
  is_handle_free (OwnType _) = false
  is_handle_free (BorrowType _) = false

  pub are_handle_free : Parts → Bool
  are_handle_free End = true
  are_handle_free (More _ ty rest) = is_handle_free ty && are_handle_free rest
  are_handle_free (Bare _ rest) = are_handle_free rest
