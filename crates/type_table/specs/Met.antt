-- What walks over tables remember: pairs of places whose types matched.
use Rattle.std.specs.Prelude.{◌≡◌, ℕ, slice_get, Some}
use Rattle.wit_types.specs.Plain.{Plain}
use Rattle.comp_types.specs.Matching.{Pairs, matched_value}
use Rattle.type_table.specs.Tables.{Types, trees}

-- they match again, and add no pair of resources
abbrev pub HaveMet : Types → Pairs → ℕ × ℕ → Type 0
HaveMet types by p = (a b : Plain) → slice_get (trees types) p.0 ≡ Some a → slice_get (trees types) p.1 ≡ Some b → matched_value by a b ≡ Some by
