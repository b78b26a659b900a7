-- What contracts see of the handles of a value.
use Rattle.std.specs.Prelude.{ℕ, List, map}
use Rattle.wit_types.specs.Plain.{Plain, OwnType, BorrowType}
use Rattle.abi_layout.specs.Handles.{Handle}
use Rattle.value_handles.specs.declared.handle.ValueHandle.{ValueHandle}
use Rattle.value_handles.specs.declared.handle.ValueHandle.TheVariants.{Own, Borrow}

abbrev pub number_of : ValueHandle → ℕ
number_of (Own resource number) = number
number_of (Borrow resource number) = number

abbrev pub type_of : ValueHandle → Plain
type_of (Own resource number) = OwnType resource
type_of (Borrow resource number) = BorrowType resource

abbrev pub handle_of : ValueHandle → Handle
handle_of h = record { ty = type_of h; number = number_of h }

abbrev pub shown : List ValueHandle → List Handle
shown hs = map handle_of hs
