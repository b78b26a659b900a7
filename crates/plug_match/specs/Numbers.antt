-- The resources of both components as numbers of the whole: what the host gives has the number of its kind, and after the kinds
-- stand the first component's own.
use Rattle.std.specs.Prelude.{ℕ, ◌+◌, List, [], ◌∷◌, Option, Some, None}
use Rattle.comp_types.specs.Items.{Entries}
use Rattle.comp_types.specs.Substitution.{partner_of, and_pair}
use Rattle.comp_types.specs.Matching.{Pairs, meet, onward, matched_entries}
use Rattle.plug_match.specs.declared.numbers.TheConstants.{FIRST_OWN}

abbrev pub number_or : ℕ → Option ℕ → ℕ
number_or resource None = FIRST_OWN + resource
number_or resource (Some kind) = kind

-- the number in the whole of a resource of the first
abbrev pub number_of : Pairs → ℕ → ℕ
number_of kinds resource = number_or resource (partner_of kinds resource)

-- pairs of resources of the second and the first: those of the second have the numbers of those of the first
abbrev pub handed_on : (kinds by : Pairs) → Pairs → Option Pairs
handed_on kinds by [] = Some by
handed_on kinds by (p ∷ ps) = onward (λ more. handed_on kinds more ps) (meet by p.0 (number_of kinds p.1))

-- an import that is met by an export of the first
abbrev pub met_by : (kinds by : Pairs) → (given asked : Entries) → Option Pairs
met_by kinds by given asked = onward (handed_on kinds by) (matched_entries [] given asked)

-- some pairs, and then others, one by one
abbrev pub with_pairs : Pairs → Pairs → Pairs
with_pairs own [] = own
with_pairs own (p ∷ ps) = with_pairs (and_pair own p.0 p.1) ps
