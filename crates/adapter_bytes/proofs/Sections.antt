-- Lists whose items may be written, in that many bytes at most.
use Rattle.std.proofs.Common.{◌≡◌, ℕ, zero, suc, ◌+◌, ◌<◌, ◌≤◌, ◌^◌, List, [], ◌∷◌, ◌++◌, length, refl, arith, length-append}
use Rattle.std.specs.List.{AllByRecursion}
use Rattle.wasm_format.specs.Format.{Format, vec, sized, u32_format, write_items}
use Rattle.core_write.specs.Written.{ListFits}
use Rattle.adapter_bytes.proofs.Numbers.{few_unsigned}

pub record IsSmall {A : Type 0} (F : Format A) (most : ℕ) (items : List A) : Type 0 where
  pub fits : AllByRecursion F.Fits items
  pub count : length items ≤ most
  pub few : length (write_items F items) ≤ most

pub none : {A : Type 0} (F : Format A) → IsSmall F 0 []
none F = record { fits = tt; count = omega arith; few = omega arith }

pub one_more : {A : Type 0} (F : Format A) (k n : ℕ) (a : A) (items : List A) → 0 < k → F.Fits a → length (F.write a) ≤ k → IsSmall F n items → IsSmall F (k + n) (a ∷ items)
one_more F k n a items some fits few s = record {
  fits = (fits, s.fits);
  count = omega (arith, s.count, some);
  few = omega (arith, s.few, few, length-append (F.write a) (write_items F items));
}

all_both : {A : Type 0} (P : A → Type 0) (xs ys : List A) → AllByRecursion P xs → AllByRecursion P ys → AllByRecursion P (xs ++ ys)
all_both P [] ys h g = g
all_both P (x ∷ xs) ys h g = (h.0, all_both P xs ys h.1 g)

few_both : {A : Type 0} (F : Format A) (xs ys : List A) → length (write_items F (xs ++ ys)) ≡ length (write_items F xs) + length (write_items F ys)
few_both F [] ys = omega arith
few_both F (x ∷ xs) ys = omega (arith, few_both F xs ys, length-append (F.write x) (write_items F (xs ++ ys)), length-append (F.write x) (write_items F xs))

pub both : {A : Type 0} (F : Format A) (m n : ℕ) (xs ys : List A) → IsSmall F m xs → IsSmall F n ys → IsSmall F (m + n) (xs ++ ys)
both F m n xs ys s t = record {
  fits = all_both F.Fits xs ys s.fits t.fits;
  count = omega (arith, s.count, t.count, length-append xs ys);
  few = omega (arith, s.few, t.few, few_both F xs ys);
}

pub wider : {A : Type 0} (F : Format A) (m n : ℕ) (items : List A) → m ≤ n → IsSmall F m items → IsSmall F n items
wider F m n items le s = record { fits = s.fits; count = omega (arith, s.count, le); few = omega (arith, s.few, le) }

-- a section of them
pub section : {A : Type 0} (F : Format A) (n : ℕ) (items : List A) → n + 5 < 2 ^ 32 → IsSmall F n items → ListFits F items
unfolding u32_format
section F n [] lt s = tt
section F n (a ∷ items) lt s =
    let whole : length ((vec F).write (a ∷ items)) < 2 ^ 32 = omega (arith, s.few, lt, few_unsigned 4 (length (a ∷ items)), length-append (u32_format.write (length (a ∷ items))) (write_items F (a ∷ items))) in
    (whole, (omega (arith, s.count, lt), s.fits))

-- an item after its size
pub sized_fits : {A : Type 0} (F : Format A) (k : ℕ) (a : A) → F.Fits a → length (F.write a) ≤ k → k < 2 ^ 32 → (sized F).Fits a × (length ((sized F).write a) ≤ 5 + k)
unfolding u32_format
sized_fits F k a fits few lt = ((omega (arith, few, lt), fits), omega (arith, few, few_unsigned 4 (length (F.write a)), length-append (u32_format.write (length (F.write a))) (F.write a)))
