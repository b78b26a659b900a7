-- What was made of types of a table with other resources.
use Rattle.std.specs.Prelude.{◌≡◌, ℕ, Some, slice_get}
use Rattle.wit_types.specs.Plain.{Plain}
use Rattle.comp_types.specs.Substitution.{value_with}
use Rattle.type_table.specs.Tables.{Types, trees, Has}
use Rattle.type_table.specs.declared.making.Made.{Made}

-- the type at this place is made as the new one, which the table has
abbrev pub MadeOf : Types → (ℕ → ℕ) → ℕ → Plain → Type 0
MadeOf types f at new = (old : Plain) × (slice_get (trees types) at ≡ Some old) × (new ≡ value_with f old) × Has types new

abbrev pub IsMadeAt : Types → (ℕ → ℕ) → Made → Type 0
IsMadeAt types f made = MadeOf types f made.at made.new.value
