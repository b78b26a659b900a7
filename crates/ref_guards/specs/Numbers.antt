-- Handles and their numbers, as the reference host has them and as the Canonical ABI does.
use Rattle.std.specs.Prelude.{◌≡◌, ℕ, ◌≤◌, List, length, map, drop}
use Rattle.wit_types.specs.Plain.{Plain, OwnType, BorrowType}
use Rattle.wit_types.specs.PlainValue.{PlainValue}
use Rattle.abi_layout.specs.Handles as abi
use Rattle.reference_step.specs.Atoms as reference

-- the resource of a handle type
abbrev pub kind_of : Plain → ℕ
kind_of (OwnType kind) = kind
kind_of (BorrowType kind) = kind
kind_of _ = 0

abbrev pub seen : abi.Handle → ℕ × ℕ
seen h = (kind_of h.ty, h.number)

-- the handles of a value are those among its atoms
abbrev pub HandlesAgree : Type 0
HandlesAgree = (ty : Plain) (v : PlainValue) → reference.handles (reference.atoms ty v) ≡ map seen (abi.handles ty v)

-- where there is a number for each handle, the value gets the same ones, and the others are left
abbrev pub NumbersAgree : Type 0
NumbersAgree = (ty : Plain) (v : PlainValue) (numbers : List ℕ) → length (abi.handles ty v) ≤ length numbers → reference.renumbered ty v numbers ≡ (abi.renumbered ty v numbers, drop (length (abi.handles ty v)) numbers)
