-- The numbers of the transfer area.
use Rattle.std.proofs.Common.{◌≡◌, ℕ, ◌+◌, ◌-◌, ◌*◌, ◌/◌, ◌%◌, ◌<◌, ◌≤◌, ◌^◌, true, false, arith}
use Rattle.std.specs.Prelude.{nat_lt, nat_le}
use Rattle.std.proofs.lemmas.Bool.Decides.{nat_tests}
use Rattle.std.proofs.Math.Nat.{mod-eq_of_lt}
use Rattle.adapter_code.specs.declared.layout.Layout.{Layout}
use Rattle.adapter_code.specs.Layout.{padded, transfer_at, end_of, Fits}
use Rattle.adapter_transfer.specs.Transfer.{last_at}

pub less : (a b : ℕ) → a < b → nat_lt a b ≡ true
less a b h = grind (arith, nat_tests)

pub not_less : (a b : ℕ) → b ≤ a → nat_lt a b ≡ false
not_less a b h = grind (arith, nat_tests)

pub within : (a b : ℕ) → nat_le a b ≡ true → a ≤ b
within a b h = grind (arith, nat_tests)

pub beyond : (a b : ℕ) → nat_le a b ≡ false → b < a
beyond a b h = grind (arith, nat_tests)

-- the area begins at a multiple of 8
abbrev pub eights : Layout → ℕ
eights l = 46 + 28 * l.slots + (l.image_len + 7) / 8 + (l.spare + 7) / 8

pub begins_whole : (l : Layout) → transfer_at l ≡ eights l * 8
begins_whole l = omega arith

-- what is left of the area holds a request exactly where the request does not pass the area's end
fits_left : (a k t len : ℕ) → a * 8 ≤ k * 8 + t → a * 8 + (len + 7) / 8 * 8 ≤ k * 8 + t → len ≤ k * 8 + t / 8 * 8 - a * 8
fits_left a k t len used fits = omega arith

passes_left : (a k t len : ℕ) → a * 8 ≤ k * 8 + t → k * 8 + t < a * 8 + (len + 7) / 8 * 8 → k * 8 + t / 8 * 8 - a * 8 < len
passes_left a k t len used passes = omega arith

used_left : (a k t : ℕ) → a * 8 ≤ k * 8 + t → a * 8 ≤ k * 8 + t / 8 * 8
used_left a k t used = omega arith

module _ (l : Layout) (at : ℕ) (whole : at / 8 * 8 ≡ at) (to : at ≤ end_of l) where
  used : at / 8 * 8 ≤ eights l * 8 + l.transfer
  used = omega (arith, whole, to, begins_whole l)

  pub has_room : (len : ℕ) → at + padded len ≤ end_of l → len ≤ last_at l - at
  has_room len fits =
      let r = fits_left (at / 8) (eights l) l.transfer len used (omega (arith, whole, fits, begins_whole l)) in
      omega (arith, r, whole, begins_whole l)

  pub has_none : (len : ℕ) → end_of l < at + padded len → last_at l - at < len
  has_none len passes =
      let r = passes_left (at / 8) (eights l) l.transfer len used (omega (arith, whole, passes, begins_whole l)) in
      omega (arith, r, whole, begins_whole l)

  pub is_before : at ≤ last_at l
  is_before = let r = used_left (at / 8) (eights l) l.transfer used in omega (arith, r, whole, begins_whole l)

pub last_small : (l : Layout) → Fits l → last_at l < 2 ^ 32
last_small l fits = omega (arith, fits)

pub begin_small : (l : Layout) → Fits l → transfer_at l < 2 ^ 32
begin_small l fits = omega (arith, fits)

pub low_same : (v : ℕ) → v < 2 ^ 32 → v % 2 ^ 32 ≡ v
low_same v lt = mod-eq_of_lt lt
