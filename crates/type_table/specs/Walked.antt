-- What a walk through two types does, by what it remembers of types that met before.
use Rattle.std.specs.Prelude.{◌≡◌, ℕ, List, [], ◌∷◌, ◌++◌, ◌⊎◌, All, IsTrue, Bool, Option as Opt}
use Rattle.comp_types.specs.Matching.{Pairs, GoesOn}
use Rattle.type_table.specs.Tables.{Types, IsSound}
use Rattle.type_table.specs.Met.{HaveMet}
use Rattle.type_table.specs.declared.walk.Walked.{Walked}

-- one pair of places more, or it was there
abbrev pub IsMarked : (old new : List (ℕ × ℕ)) → ℕ × ℕ → Type 0
IsMarked old new p = (new ≡ old) ⊎ (new ≡ old ++ p ∷ [])

-- what it remembers did meet, by the pairs of resources so far
abbrev pub Remembers : Types → Walked → Type 0
Remembers types w = IsSound types → All (HaveMet types w.by) w.met.keys

-- It goes on as the match does, and where it goes on, what it remembers did meet.
abbrev pub Walks : Types → (old new : Walked) → Bool → Opt Pairs → Type 0
Walks types old new same o = Remembers types old → GoesOn same new.by o × (IsTrue same → Remembers types new)

-- what it remembers did meet, whatever stands at the places where it began
abbrev pub Keeps : Types → (old new : Walked) → Bool → Type 0
Keeps types old new same = Remembers types old → IsTrue same → Remembers types new
