-- What enters by an answer has room: of each kind, a value has at most as many handles as rule two has asked places for. The one
-- function whose result has handles in a list is get-directories, which asks for each by itself.
use Rattle.std.specs.Prelude.{◌≡◌, ℕ, ◌+◌, ◌==◌, ◌≤◌, nat_lt, Bool, false, true, List, [], ◌∷◌, Option, Some}
use Rattle.std.specs.List.{list_all}
use Rattle.wit_types.specs.Plain.{Name}
use Rattle.wit_types.specs.PlainValue.{PlainValue}
use Rattle.reference_step.specs.Atoms.{handles, result_atoms}
use Rattle.reference_step.specs.Listed.{Listed, listed_function}
use Rattle.reference_step.specs.Rules.{same_kind, owns_of}

-- how many handles are of a kind
abbrev pub count_kind : ℕ → List (ℕ × ℕ) → ℕ
count_kind kind [] = 0
count_kind kind (g ∷ gs) = same_kind kind g.0 + count_kind kind gs

-- the number of wasi:filesystem/preopens
abbrev pub preopens : ℕ
preopens = 19

abbrev pub EnteringHasRoom : Type 0
EnteringHasRoom = (version : ℕ → Name) (interface name : Name) (f : Listed) → listed_function version interface name ≡ Some f → (f.interface == preopens) ≡ false → (v : Option PlainValue) (kind : ℕ) → count_kind kind (handles (result_atoms f.function.ty.answer v)) ≤ owns_of kind f.function.ty.answer

-- each handle is of one of the 14 listed kinds
abbrev pub are_kinds : List (ℕ × ℕ) → Bool
are_kinds gs = list_all (λ g. nat_lt g.0 14) gs

-- What enters by an answer is of a listed kind.
abbrev pub EnteringHasKinds : Type 0
EnteringHasKinds = (version : ℕ → Name) (interface name : Name) (f : Listed) → listed_function version interface name ≡ Some f → (f.interface == preopens) ≡ false → (v : Option PlainValue) → are_kinds (handles (result_atoms f.function.ty.answer v)) ≡ true
