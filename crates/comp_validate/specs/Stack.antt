-- The counts of the declarations that open instance types still have, the innermost first.
use Rattle.std.specs.Prelude.{◌≡◌, ℕ, zero, suc, List, [], ◌∷◌, Option, Some, None, ⊤}

-- one is taken off the innermost
abbrev pub one_less : List ℕ → List ℕ
one_less [] = []
one_less (zero ∷ counts) = zero ∷ counts
one_less (suc n ∷ counts) = n ∷ counts

-- none is open, or the innermost has declarations left
abbrev pub IsReady : List ℕ → Type 0
IsReady [] = ⊤
IsReady (zero ∷ counts) = ⊥
IsReady (suc n ∷ counts) = ⊤

abbrev pub IsPopped : List ℕ → Option ℕ → List ℕ → Type 0
IsPopped old None new = (old ≡ []) × (new ≡ [])
IsPopped old (Some n) new = old ≡ n ∷ new
