-- Pairs of resources and kinds the other way round: there is such a list where no two resources have one kind.
use Rattle.std.specs.Prelude.{[], ◌∷◌, Option, Some}
use Rattle.comp_types.specs.Matching.{Pairs, meet, onward}

abbrev pub turned : Pairs → Pairs → Option Pairs
turned back [] = Some back
turned back (p ∷ ps) = onward (λ more. turned more ps) (meet back p.1 p.0)
