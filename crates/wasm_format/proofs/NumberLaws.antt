-- Signed numbers are read as they are spelled.
use Rattle.std.proofs.Common.{◌≡◌, ℕ, ℤ, pos, neg_ℤ, ◌≤ℤ◌, ◌<ℤ◌, ◌^◌, List, Ok, refl, subst}
use Rattle.virt_base.specs.Place.{Place, Takes}
use Rattle.virt_base.specs.Leb.{IsSigned, signed_at, shortest_signed}
use Rattle.virt_base.proofs.LebLaws.{SignedSays, signed_says, signed_again, s32_spelled, s33_spelled, s64_spelled}
use Rattle.wasm_format.specs.Format.{checked}
use Rattle.wasm_format.specs.Numbers.{signed_format, s32_format, s33_format, s64_format, is_natural, natural_of, s33_index}
use Rattle.wasm_format.proofs.Laws.{IsExact, IsFilled, ok_of_number, exact_image, exact_checked, filled_image, filled_checked}

signed_takes : (half : ℕ) (p : Place) (x : ℤ × Place) → signed_at half p.at p.rest ≡ Ok x → (text : List ℕ) × IsSigned half x.0 text × Takes text p x.1
signed_takes half p x e = subst (SignedSays half p.at p.rest) e (signed_says half p.at p.rest)

exact_signed : (half : ℕ) → ((n : ℤ) → neg_ℤ (pos half) ≤ℤ n → n <ℤ pos half → IsSigned half n (shortest_signed 9 n)) → IsExact (signed_format half)
exact_signed half spelled = record {
  found = λ p a e. signed_takes half p a (ok_of_number (signed_at half p.at p.rest) a e);
  again = λ n text at more s. rw (signed_again half n text at more s) refl;
  written = λ n at h. spelled n h.0 h.1;
}

pub exact_s32 : IsExact s32_format
unfolding s32_format
exact_s32 = exact_signed (2 ^ 31) s32_spelled

pub exact_s33 : IsExact s33_format
unfolding s33_format
exact_s33 = exact_signed (2 ^ 32) s33_spelled

pub exact_s64 : IsExact s64_format
unfolding s64_format
exact_s64 = exact_signed (2 ^ 63) s64_spelled

pub exact_s33_index : IsExact s33_index
unfolding s33_index
exact_s33_index = exact_image natural_of pos (checked is_natural s33_format) (exact_checked is_natural s33_format exact_s33)

filled_s33 : IsFilled s33_format
unfolding s33_format
filled_s33 = record { filled = λ at n s. s }

pub filled_s33_index : IsFilled s33_index
unfolding s33_index
filled_s33_index = filled_image natural_of pos (checked is_natural s33_format) (filled_checked is_natural s33_format filled_s33)
