-- Signed numbers, and indexes where a negative number is none.
use Rattle.std.specs.Prelude.{ℕ, ℤ, pos, negsuc, neg_ℤ, ◌≤ℤ◌, ◌<ℤ◌, ◌^◌, Bool, true, false}
use Rattle.virt_base.specs.Leb.{IsSigned, signed_at, shortest_signed}
use Rattle.wasm_format.specs.Format.{Format, number_of, image, checked}

-- the numbers from -half to half - 1, for a half of at most 2 ^ 63
abbrev pub signed_format : ℕ → Format ℤ
signed_format half = record {
  Spells = λ at. IsSigned half;
  read = λ p. number_of (signed_at half p.at p.rest);
  Fits = λ n. (neg_ℤ (pos half) ≤ℤ n) × (n <ℤ pos half);
  write = shortest_signed 9;
}

unfoldable pub s32_format : Format ℤ
s32_format = signed_format (2 ^ 31)

unfoldable pub s33_format : Format ℤ
s33_format = signed_format (2 ^ 32)

unfoldable pub s64_format : Format ℤ
s64_format = signed_format (2 ^ 63)

abbrev pub is_natural : ℤ → Bool
is_natural (pos n) = true
is_natural (negsuc n) = false

abbrev pub natural_of : ℤ → ℕ
natural_of (pos n) = n
natural_of (negsuc n) = 0

-- an index that is spelled as a signed number of 33 bits
unfoldable pub s33_index : Format ℕ
s33_index = image natural_of pos (checked is_natural s33_format)
