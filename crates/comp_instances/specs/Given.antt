-- Pairs of resources of which each is added, unless its resource has a partner.
use Rattle.std.specs.Prelude.{ℕ, List, [], ◌∷◌}
use Rattle.comp_types.specs.Substitution.{and_pair}

abbrev pub and_pairs : List (ℕ × ℕ) → List (ℕ × ℕ) → List (ℕ × ℕ)
and_pairs by [] = by
and_pairs by (pair ∷ pairs) = and_pairs (and_pair by pair.0 pair.1) pairs
