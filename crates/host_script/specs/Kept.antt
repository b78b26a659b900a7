-- Texts that stand one after another in a buffer, with the length of each.
use Rattle.std.specs.Prelude.{◌≡◌, ℕ, ◌+◌, ◌≤◌, List, [], ◌∷◌, length, take, drop}

-- ---- for private clauses

abbrev pub total : List ℕ → ℕ
total [] = 0
total (n ∷ ns) = n + total ns

-- texts of these lengths
abbrev pub cut : List ℕ → List ℕ → List (List ℕ)
cut [] bytes = []
cut (n ∷ ns) bytes = take n bytes ∷ cut ns (drop n bytes)

-- the texts that are left, of which the first begins at a place
abbrev pub texts_left : ℕ → ℕ → List ℕ → List ℕ → List (List ℕ)
texts_left passed start lengths bytes = cut (drop passed lengths) (drop start bytes)

-- they end with the buffer
pub record HasTexts (passed start : ℕ) (lengths bytes : List ℕ) : Type 0 where
  pub within : passed ≤ length lengths
  pub whole : start + total (drop passed lengths) ≡ length bytes
