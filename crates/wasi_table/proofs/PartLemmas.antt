-- The parts of a text, as the code finds them one by one.
use Rattle.std.proofs.Common.{◌≡◌, ◌∙◌, ap, sym, refl, Option, Some, None, length-drop, ℕ, ◌+◌, ◌<◌, List, [], ◌∷◌, length, map, arith}
use Rattle.std.specs.Prelude.{◌==◌, MatchOption}
use Rattle.std.specs.Borrow.{Bor}
use Rattle.std.specs.List.{position_or_len, before_first, after_first}
use Rattle.std.proofs.lemmas.Bool.Decides.{nat_tests}
use Rattle.wasi_table.specs.Texts.{parts_of, parts_in, left}

pub parts_split : (joiner : ℕ) (rest : List ℕ) → position_or_len (λ b. b == joiner) rest < length rest
    → parts_of joiner rest ≡ before_first (λ b. b == joiner) rest ∷ parts_of joiner (after_first (λ b. b == joiner) rest)
parts_split joiner [] h = absurd (omega arith)
parts_split joiner (x ∷ rest) h = grind (arith, nat_tests, parts_split joiner rest)

pub parts_whole : (joiner : ℕ) (rest : List ℕ) → position_or_len (λ b. b == joiner) rest ≡ length rest → parts_of joiner rest ≡ rest ∷ []
parts_whole joiner [] h = refl
parts_whole joiner (x ∷ rest) h = grind (arith, nat_tests, parts_whole joiner rest)

pub found_parts : (joiner : ℕ) (text : List ℕ) (r : Option (Bor (List ℕ) × Bor (List ℕ)))
    → MatchOption r (position_or_len (λ b. b == joiner) text ≡ length text)
    (λ x. (x.0.now ≡ before_first (λ b. b == joiner) text) × (x.1.now ≡ after_first (λ b. b == joiner) text) × (position_or_len (λ b. b == joiner) text < length text))
    → MatchOption r (parts_of joiner text ≡ text ∷ []) (λ p. (parts_of joiner text ≡ p.0.now ∷ parts_of joiner p.1.now) × (length p.1.now < length text))
found_parts joiner text None h = parts_whole joiner text h
found_parts joiner text (Some p) h =
    let front = h.0 in
    let back = h.1 in
    let below = h.2 in
    let shorter : length (after_first (λ b. b == joiner) text) < length text = omega (arith, length-drop (position_or_len (λ b. b == joiner) text + 1) text) in (
      parts_split joiner text below ∙ ap (λ f. f ∷ parts_of joiner (after_first (λ b. b == joiner) text)) (sym front) ∙ ap (λ b. p.0.now ∷ parts_of joiner b) (sym back),
      rw back shorter,
    )

-- the same of parts that are read further
pub mapped_parts : {X : Type 0} (f : List ℕ → X) (joiner : ℕ) (rest : Option (Bor (List ℕ))) (r : Option (Bor (List ℕ) × Option (Bor (List ℕ))))
    → MatchOption r (parts_in joiner rest ≡ []) (λ p. (parts_in joiner rest ≡ p.0.now ∷ parts_in joiner p.1) × (left p.1 < left rest))
    → MatchOption r (map f (parts_in joiner rest) ≡ []) (λ p. (map f (parts_in joiner rest) ≡ f p.0.now ∷ map f (parts_in joiner p.1)) × (left p.1 < left rest))
mapped_parts f joiner rest None h = ap (map f) h
mapped_parts f joiner rest (Some p) h = (ap (map f) h.0, h.1)
