-- The labels that stand in one list of bytes, with a byte between two of them that no text in UTF-8 has.
use Rattle.std.specs.Prelude.{ℕ, List, [], ◌∷◌, ◌++◌, ◌==◌, Option, Some, None, IsUtf8}
use Rattle.std.specs.List.{slice_split}

abbrev pub labels_in : List ℕ → List (List ℕ)
labels_in bytes = slice_split (λ b. b == 255) bytes

-- the bytes are one label, or a label with others after it
abbrev pub labels_with : List ℕ → Option (List ℕ × List ℕ) → List (List ℕ)
labels_with bytes None = bytes ∷ []
labels_with bytes (Some p) = p.0 ∷ labels_in p.1

abbrev pub AreTexts : List (List ℕ) → Type 0
AreTexts [] = Unit {0}
AreTexts (label ∷ labels) = IsUtf8 label × AreTexts labels

-- labels that stand after another one
abbrev pub behind : List (List ℕ) → List ℕ
behind [] = []
behind (label ∷ labels) = 255 ∷ (label ++ behind labels)
