-- What bytes spell as a signed number may be written, and in no more bytes.
use Rattle.std.proofs.Common.{◌≡◌, ℕ, suc, ℤ, inl, inr, pos, negsuc, neg_ℤ, ◌≤ℤ◌, ◌<ℤ◌, ◌/◌, ◌%◌, ◌^◌, ◌+◌, ◌<◌, ◌≤◌, true, false, List, [], ◌∷◌, refl, arith}
use Rattle.std.proofs.lemmas.Bool.{cases_lt, le-ltb, lt-ltb, le-leb, lt-leb}
use Rattle.std.proofs.lemmas.Int.{ints}
use Rattle.virt_base.specs.Leb.{IsSigned, shortest_by}
use Rattle.virt_base.proofs.LebLaws.{signed_least}
use Rattle.wasm_format.specs.Format.{AreBytes, Begins, is_tag_byte, checked}
use Rattle.wasm_format.specs.Numbers.{signed_format, s32_format, s33_format, s64_format, is_natural, natural_of, s33_index}
use Rattle.wasm_format.proofs.LeastLaws.{IsLeast, BeginsAs, least_checked, least_image_where}

within : (half : ℕ) (n : ℤ) (text : List ℕ) → AreBytes text → IsSigned half n text → (neg_ℤ (pos half) ≤ℤ n) × (n <ℤ pos half)
within half n [] h s = absurd s
within half n (b ∷ []) h s = (s.1, s.2)
within half n (b ∷ c ∷ bs) h s =
    let high = within (half / 128) s.2.0 (c ∷ bs) h.1 s.2.2 in
    (omega (arith, ints, high.0, s.0, s.1, s.2.1, h.0), omega (arith, ints, high.1, s.0, s.1, s.2.1, h.0))

least_signed : (half : ℕ) → IsLeast (signed_format half)
least_signed half = record { least = λ at n text h s. (within half n text h s, signed_least half 9 n text h s) }

pub least_s32 : IsLeast s32_format
unfolding s32_format
least_s32 = least_signed (2 ^ 31)

pub least_s33 : IsLeast s33_format
unfolding s33_format
least_s33 = least_signed (2 ^ 32)

pub least_s64 : IsLeast s64_format
unfolding s64_format
least_s64 = least_signed (2 ^ 63)

natural_back : (n : ℤ) → is_natural n ≡ true → pos (natural_of n) ≡ n
natural_back (pos n) e = refl
natural_back (negsuc n) e = absurd cc

pub least_s33_index : IsLeast s33_index
unfolding s33_index
least_s33_index = least_image_where natural_of pos (checked is_natural s33_format) (least_checked is_natural s33_format least_s33) (λ at n text s. natural_back n s.0)

low_first : (b : ℕ) (text : List ℕ) → b < 64 → Begins is_tag_byte false (b ∷ text)
low_first b text h = rw (lt-leb 64 b h) refl

high_first : (b : ℕ) (text : List ℕ) → 128 ≤ b → Begins is_tag_byte false (b ∷ text)
high_first b text h = rw (le-leb 64 b (omega (arith, h)), le-ltb b 128 h) refl

natural_first : (more n : ℕ) → Begins is_tag_byte false (shortest_by false (suc more) n)
natural_first more n =
    elim (cases_lt n 64) [
      | inl low ↦ rw (lt-ltb _ _ low) (low_first n [] low)
      | inr high ↦ rw (le-ltb _ _ high) (high_first (n % 128 + 128) (shortest_by false more (n / 128)) (omega arith))
    ]

-- what is written for an index begins with no byte that is a tag
pub begins_s33_index : BeginsAs is_tag_byte false s33_index
unfolding s33_index s33_format
begins_s33_index = record { begins = λ n h. natural_first 8 n }
