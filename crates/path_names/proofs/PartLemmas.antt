-- The parts of a text, as the code finds them one by one.
use Rattle.std.proofs.Common.{◌≡◌, ◌∙◌, refl, ap, ℕ, ◌+◌, ◌-◌, ◌<◌, ◌≤◌, List, [], ◌∷◌, Bool, true, false, length, take, drop, cond, arith}
use Rattle.std.specs.Prelude.{Some, None, ◌==◌, nat_lt, position}
use Rattle.std.specs.List.{position_or_len}
use Rattle.std.proofs.lemmas.Grind.{common_steps}
use Rattle.std.proofs.lemmas.Bool.Decides.{nat_tests}
use Rattle.path_names.specs.Parts.{parts_of}

parts_split : (joiner : ℕ) (rest : List ℕ) → position_or_len (λ b. b == joiner) rest < length rest
    → parts_of joiner rest ≡ take (position_or_len (λ b. b == joiner) rest) rest ∷ parts_of joiner (drop (position_or_len (λ b. b == joiner) rest + 1) rest)
parts_split joiner [] h = absurd (omega arith)
parts_split joiner (x ∷ rest) h = grind (arith, nat_tests, parts_split joiner rest)

parts_whole : (joiner : ℕ) (rest : List ℕ) → length rest ≤ position_or_len (λ b. b == joiner) rest → parts_of joiner rest ≡ rest ∷ []
parts_whole joiner [] h = refl
parts_whole joiner (x ∷ rest) h = grind (arith, nat_tests, parts_whole joiner rest)

found_at : (b : Bool) (n i : ℕ) → cond b (Some n) None ≡ Some i → (b ≡ true) × (n ≡ i)
found_at true n i h = (refl, cc)
found_at false n i h = absurd (cc)

not_found : (b : Bool) (n : ℕ) → cond b (Some n) None ≡ None → b ≡ false
not_found true n h = absurd (cc)
not_found false n h = refl

pub part_ends : (joiner : ℕ) (rest : List ℕ) (i : ℕ) → position (λ b. b == joiner) rest ≡ Some i
    → parts_of joiner rest ≡ take i rest ∷ parts_of joiner (drop (i + 1) rest)
part_ends joiner rest i h =
    let found = found_at (nat_lt (position_or_len (λ b. b == joiner) rest) (length rest)) (position_or_len (λ b. b == joiner) rest) i h in
    let below : position_or_len (λ b. b == joiner) rest < length rest = grind (arith, nat_tests, found.0) in
    parts_split joiner rest below ∙ ap (λ k. take k rest ∷ parts_of joiner (drop (k + 1) rest)) found.1

pub last_part : (joiner : ℕ) (rest : List ℕ) → position (λ b. b == joiner) rest ≡ None → parts_of joiner rest ≡ rest ∷ []
last_part joiner rest h =
    let none = not_found (nat_lt (position_or_len (λ b. b == joiner) rest) (length rest)) (position_or_len (λ b. b == joiner) rest) h in
    let all : length rest ≤ position_or_len (λ b. b == joiner) rest = grind (arith, nat_tests, none) in
    parts_whole joiner rest all

pub all_behind : (xs : List ℕ) (k : ℕ) → take (length xs - k) (drop k xs) ≡ drop k xs
all_behind xs k = grind (arith, common_steps)
