-- Resources in order, each once.
use Rattle.std.specs.Prelude.{◌≡◌, ℕ, List, [], ◌∷◌, ◌++◌, true, ⊤, if◌then◌else◌}
use Rattle.comp_types.specs.GivenResources.{is_among}

-- with this one too, unless it is there
abbrev pub and_once : List ℕ → ℕ → List ℕ
and_once rs r = if is_among rs r then rs else rs ++ r ∷ []

-- with each of these
abbrev pub and_each : List ℕ → List ℕ → List ℕ
and_each rs [] = rs
and_each rs (x ∷ xs) = and_each (and_once rs x) xs

-- each of these is among them
abbrev pub AreAmong : List ℕ → List ℕ → Type 0
AreAmong rs [] = ⊤
AreAmong rs (x ∷ xs) = (is_among rs x ≡ true) × AreAmong rs xs
