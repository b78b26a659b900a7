-- Whether a type borrows a handle of a kind that cannot be the host's.
use Rattle.std.specs.Prelude.{Bool, false, not, ◌||◌}
use Rattle.wit_types.specs.Plain.{Plain, Parts, BoolType, SignedType, UnsignedType, CharType, StringType, ListType, RecordType, VariantType, FlagsType, OwnType, BorrowType, End, More, Bare}
use Rattle.policy_data.specs.declared.policy.Policy.{Policy}
use Rattle.reference_step.specs.Access.{can_be_host}

abbrev mutual
  pub borrows_own : Policy → Plain → Bool
  borrows_own p BoolType = false
  borrows_own p (SignedType _) = false
  borrows_own p (UnsignedType _) = false
  borrows_own p CharType = false
  borrows_own p StringType = false
  borrows_own p (ListType item) = borrows_own p item
  borrows_own p (RecordType _ fields) = parts_borrow_own p fields
  borrows_own p (VariantType _ cases) = parts_borrow_own p cases
  borrows_own p (FlagsType _) = false
  borrows_own p (OwnType _) = false
  borrows_own p (BorrowType kind) = not (can_be_host p kind)

  pub parts_borrow_own : Policy → Parts → Bool
  parts_borrow_own p End = false
  parts_borrow_own p (More _ ty rest) = borrows_own p ty || parts_borrow_own p rest
  parts_borrow_own p (Bare _ rest) = parts_borrow_own p rest
