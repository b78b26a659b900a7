-- Labels (Component Model, Explainer.md, "Import and Export Definitions"): words that `-` joins.
use Rattle.std.specs.Prelude.{ℕ, List, [], ◌∷◌, Bool, false, ◌&&◌, ◌||◌, ◌==◌, nat_le}
use Rattle.std.specs.List.{list_all, slice_split}

abbrev pub is_within : ℕ → ℕ → ℕ → Bool
is_within low high c = nat_le low c && nat_le c high

abbrev pub is_digit : ℕ → Bool
is_digit c = is_within 48 57 c

abbrev pub is_lower : ℕ → Bool
is_lower c = is_within 97 122 c

abbrev pub is_upper : ℕ → Bool
is_upper c = is_within 65 90 c

-- a letter, and letters or digits, all letters in one case
abbrev pub is_word : List ℕ → Bool
is_word [] = false
is_word (c ∷ cs) = (is_lower c && list_all (λ b. is_lower b || is_digit b) cs) || (is_upper c && list_all (λ b. is_upper b || is_digit b) cs)

abbrev pub words_of : List ℕ → List (List ℕ)
words_of text = slice_split (λ b. b == 45) text

abbrev pub is_label : List ℕ → Bool
is_label text = list_all is_word (words_of text)
