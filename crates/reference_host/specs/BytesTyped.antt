-- Arguments that have the types of a listed function's parameters are bytes where the function takes bytes.
use Rattle.std.specs.Prelude.{◌≡◌, ℕ, true, Some}
use Rattle.wit_types.specs.HasType.{are_of}
use Rattle.wit_types.specs.Plain.{Name}
use Rattle.wit_types.specs.PlainValue.{PlainValues}
use Rattle.reference_step.specs.Listed.{Listed, listed_function}
use Rattle.ref_virtual.specs.Known.{AreBytes}

abbrev pub TypedAreBytes : Type 0
TypedAreBytes = (version : ℕ → Name) (interface name : Name) (f : Listed) → listed_function version interface name ≡ Some f → (args : PlainValues) → are_of f.function.ty.params args ≡ true → AreBytes args
