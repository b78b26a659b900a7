-- How many bytes numbers take, and what constants fit.
use Rattle.std.proofs.Common.{◌≡◌, ℕ, zero, suc, ◌+◌, ◌-◌, ◌/◌, ◌%◌, ◌<◌, ◌≤◌, ◌^◌, ℤ, pos, negsuc, neg_ℤ, ◌≤ℤ◌, ◌<ℤ◌, Bool, true, false, List, [], ◌∷◌, length, inl, inr, refl, arith}
use Rattle.std.specs.Prelude.{nat_lt, if◌then◌else◌}
use Rattle.std.specs.Int.{w32, w64, cast_signed}
use Rattle.std.proofs.lemmas.Int.{ints}
use Rattle.std.proofs.lemmas.Bool.{cases_lt, lt-ltb, le-ltb}
use Rattle.std.proofs.Math.Nat.{mod-lt}
use Rattle.virt_base.specs.Leb.{shortest_unsigned, shortest_by, shortest_signed, low_bits}
use Rattle.core_integer.specs.Operators.{wrap}

few_by : (b : Bool) (x y k : ℕ) (rest : List ℕ) → 1 ≤ k → length rest ≤ k → length (if b then x ∷ [] else (y ∷ rest)) ≤ k + 1
few_by true x y k rest some h = omega arith
few_by false x y k rest some h = omega (arith, h)

pub few_unsigned : (more n : ℕ) → length (shortest_unsigned more n) ≤ more + 1
few_unsigned zero n = omega arith
few_unsigned (suc more) n =
    let h = few_by (nat_lt n 128) n (n % 128 + 128) (more + 1) (shortest_unsigned more (n / 128)) (omega arith) (few_unsigned more (n / 128)) in
    omega (arith, h)

few_signed_by : (negative : Bool) (more m : ℕ) → length (shortest_by negative more m) ≤ more + 1
few_signed_by negative zero m = omega arith
few_signed_by negative (suc more) m =
    let h = few_by (nat_lt m 64) (low_bits negative m) (low_bits negative (m % 128) + 128) (more + 1) (shortest_by negative more (m / 128)) (omega arith) (few_signed_by negative more (m / 128)) in
    omega (arith, h)

pub few_signed : (more : ℕ) (n : ℤ) → length (shortest_signed more n) ≤ more + 1
few_signed more (pos m) = few_signed_by false more m
few_signed more (negsuc m) = few_signed_by true more m

-- ---- numbers of a width, read as signed ones

abbrev pub Within : ℕ → ℤ → Type 0
Within half n = (neg_ℤ (pos half) ≤ℤ n) × (n <ℤ pos half)

small_within : (n : ℕ) → n < 2 ^ 32 → Within (2 ^ 31) (cast_signed w32 n)
small_within n h =
    elim (cases_lt n (2 ^ 31)) [
      | inl lt ↦ rw (lt-ltb n (2 ^ 31) lt) (omega (arith, ints, lt), omega (arith, ints, lt))
      | inr le ↦ rw (le-ltb n (2 ^ 31) le) (omega (arith, ints, le, h), omega (arith, ints, le, h))
    ]

wide_within : (n : ℕ) → n < 2 ^ 64 → Within (2 ^ 63) (cast_signed w64 n)
wide_within n h =
    elim (cases_lt n (2 ^ 63)) [
      | inl lt ↦ rw (lt-ltb n (2 ^ 63) lt) (omega (arith, ints, lt), omega (arith, ints, lt))
      | inr le ↦ rw (le-ltb n (2 ^ 63) le) (omega (arith, ints, le, h), omega (arith, ints, le, h))
    ]

pub small_fits : (v : ℕ) → Within (2 ^ 31) (cast_signed w32 (wrap w32 v))
small_fits v = small_within (wrap w32 v) (mod-lt v (omega arith))

pub wide_fits : (v : ℕ) → Within (2 ^ 63) (cast_signed w64 (wrap w64 v))
wide_fits v = wide_within (wrap w64 v) (mod-lt v (omega arith))
