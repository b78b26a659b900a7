-- How many own handles of a kind a result has outside lists, where more than 32 bits hold count as the greatest of them.
use Rattle.std.specs.Prelude.{ℕ, List, map, min, Option}
use Rattle.wit_types.specs.Plain.{Plain}
use Rattle.reference_step.specs.Rules.{kinds, owns_of}

abbrev pub owned_at_most : Option Plain → ℕ → ℕ
owned_at_most ty kind = min (owns_of kind ty) 4294967295

-- that many of each kind, by the same limit
abbrev pub each_at_most : (ℕ → ℕ) → List ℕ
each_at_most many = map (λ kind. min (many kind) 4294967295) kinds
