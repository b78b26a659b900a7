-- A count of faults, a number of 64 bits that stays at its greatest value.
use Rattle.std.specs.Prelude.{ℕ, ◌+◌, ◌-◌, ◌^◌, ◌≤◌, min, max}

-- one more, up to the greatest number of 64 bits, and no more from there on
abbrev pub one_more : ℕ → ℕ
one_more count = max count (min (count + 1) (2 ^ 64 - 1))

-- the count rose, or stands at its end
abbrev pub Rose : ℕ → ℕ → Type 0
Rose before now = one_more before ≤ now
