-- Bytes in a text, and the parts that they join.
use Rattle.std.specs.Prelude.{ℕ, ◌+◌, List, [], ◌∷◌, Bool, Option, Some, None, option_map, position, take, drop, ◌==◌, if◌then◌else◌}
use Rattle.std.specs.List.{list_any}

abbrev pub holds_byte : ℕ → List ℕ → Bool
holds_byte byte text = list_any (λ b. b == byte) text

abbrev pub in_first : ℕ → List (List ℕ) → List (List ℕ)
in_first byte [] = (byte ∷ []) ∷ []
in_first byte (part ∷ parts) = (byte ∷ part) ∷ parts

-- always one at least
abbrev pub parts_of : ℕ → List ℕ → List (List ℕ)
parts_of joiner [] = [] ∷ []
parts_of joiner (byte ∷ text) = if byte == joiner then [] ∷ parts_of joiner text else in_first byte (parts_of joiner text)

-- what stands before the first such byte, and what after it
abbrev pub cut : ℕ → List ℕ → Option (List ℕ × List ℕ)
cut byte text = option_map (λ place. (take place text, drop (place + 1) text)) (position (λ b. b == byte) text)

abbrev pub parts_with : ℕ → List ℕ → Option (List ℕ × List ℕ) → List (List ℕ)
parts_with joiner text None = text ∷ []
parts_with joiner text (Some p) = p.0 ∷ parts_of joiner p.1
