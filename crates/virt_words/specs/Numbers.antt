-- Numbers among words: decimal digits without a sign or a leading zero.
use Rattle.std.specs.Prelude.{ℕ, ◌+◌, ◌-◌, ◌*◌, List, [], ◌∷◌, Option, Some, None, ◌==◌, ◌||◌, nat_lt, if◌then◌else◌}

-- a number with more digits after it, as long as it stays within a limit
abbrev pub digits_within : ℕ → ℕ → List ℕ → Option ℕ
digits_within greatest n [] = Some n
digits_within greatest n (c ∷ cs) =
    if nat_lt c 48 || nat_lt 57 c then None
    else (if nat_lt greatest (n * 10 + (c - 48)) then None else digits_within greatest (n * 10 + (c - 48)) cs)

-- from 1 to the greatest
abbrev pub number_in : ℕ → List ℕ → Option ℕ
number_in greatest [] = None
number_in greatest (c ∷ cs) = if c == 48 then None else digits_within greatest 0 (c ∷ cs)
