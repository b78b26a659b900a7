-- Pairs by which resources are found alike.
use Rattle.std.specs.Prelude.{◌≡◌, ℕ, List}
use Rattle.comp_types.specs.Substitution.{partner_of}

-- each resource has the same partner in both, or none
abbrev pub FindAlike : List (ℕ × ℕ) → List (ℕ × ℕ) → Type 0
FindAlike these those = (r : ℕ) → partner_of these r ≡ partner_of those r
