-- The handles in value types (Component Model, Explainer.md, "Handle types").
use Rattle.std.specs.Prelude.{Bool, true, false, ◌||◌, Option, Some, None}
use Rattle.wit_types.specs.Plain.{Plain, Parts, PlainFunc, ListType, RecordType, VariantType, OwnType, BorrowType, End as NoParts, More as Part, Bare}

-- a type has a borrowed handle in it
abbrev mutual
  pub has_borrow : Plain → Bool
  has_borrow (ListType item) = has_borrow item
  has_borrow (RecordType form fields) = has_borrow_in fields
  has_borrow (VariantType form cases) = has_borrow_in cases
  has_borrow (BorrowType r) = true
  has_borrow _ = false

  pub has_borrow_in : Parts → Bool
  has_borrow_in NoParts = false
  has_borrow_in (Part name ty rest) = has_borrow ty || has_borrow_in rest
  has_borrow_in (Bare name rest) = has_borrow_in rest

-- a type has a handle in it, owned or borrowed
abbrev mutual
  pub has_handle : Plain → Bool
  has_handle (ListType item) = has_handle item
  has_handle (RecordType form fields) = has_handle_in fields
  has_handle (VariantType form cases) = has_handle_in cases
  has_handle (OwnType r) = true
  has_handle (BorrowType r) = true
  has_handle _ = false

  pub has_handle_in : Parts → Bool
  has_handle_in NoParts = false
  has_handle_in (Part name ty rest) = has_handle ty || has_handle_in rest
  has_handle_in (Bare name rest) = has_handle_in rest

abbrev pub answer_has_handle : Option Plain → Bool
answer_has_handle None = false
answer_has_handle (Some ty) = has_handle ty

abbrev pub func_has_handle : PlainFunc → Bool
func_has_handle ty = has_handle_in ty.params || answer_has_handle ty.answer
