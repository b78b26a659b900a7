-- What a memory of zeros holds once the static data is written into it.
use Rattle.std.proofs.Common.{◌≡◌, ℕ, zero, suc, ◌+◌, ◌-◌, ◌*◌, ◌/◌, ◌<◌, ◌≤◌, List, [], ◌∷◌, ◌++◌, Bool, true, false, Some, length, take, drop, get_or, replicate, refl, sym, ap, ◌∙◌, subst, arith, inl, inr}
use Rattle.std.specs.Prelude.{◌⊎◌, ◌==◌, if◌then◌else◌}
use Rattle.std.proofs.Math.Nat.{mul-le-mul_right}
use Rattle.std.proofs.Math.Seq.{drop-append_seam, take-append_seam}
use Rattle.std.proofs.lemmas.List.{length-replicate, length-take-le, get_or-take, get_or-drop, get_or_append_left, get_or-append_right}
use Rattle.core_memory.specs.Linear.{Linear, fresh, written, touched, size}
use Rattle.core_memory.specs.Linear.{pages_of as pages_at}
use Rattle.core_memory.specs.Page.{zeros}
use Rattle.core_memory.specs.Replaced.{replaced}
use Rattle.core_memory.proofs.Contents.{length_zeros}
use Rattle.core_memory.proofs.Parts.{length_replaced}
use Rattle.adapter_code.specs.declared.layout.Layout.{Layout}
use Rattle.adapter_code.specs.Layout.{Fits, table_at, table_len, image_at, pages_of}
use Rattle.table_bytes.proofs.Zeros.{zeros-table}
use Rattle.adapter_bytes.specs.Opening.{Opens}

past : {A : Type 0} → (xs : List A) (i : ℕ) (d : A) → length xs ≤ i → get_or xs i d ≡ d
past [] i d le = refl
past (x ∷ xs) zero d le = absurd (omega (arith, le))
past (x ∷ xs) (suc i) d le = past xs i d (omega (arith, le))

zero_byte : (n i : ℕ) → get_or {A = ℕ} (replicate n 0) i 0 ≡ 0
zero_byte zero i = refl
zero_byte (suc n) zero = refl
zero_byte (suc n) (suc i) = zero_byte n i

zeros_byte : (n i : ℕ) → get_or (zeros n) i 0 ≡ 0
unfolding zeros
zeros_byte n i = zero_byte n i

touched_long : (made : List Bool) (at len : ℕ) → at + len ≤ 65536 * length made → length (touched made at len) ≡ length made
touched_long made at len le = by_test len le (len == 0) refl
  where
    by_test : (n : ℕ) → at + n ≤ 65536 * length made → (b : Bool) → (n == 0) ≡ b → length (if b then made else replaced made (at / 65536) (replicate (pages_at at n) true)) ≡ length made
    by_test n le true e = refl
    by_test zero le false e = absurd (cc)
    by_test (suc n) le false e =
        let few = length-replicate (pages_at at (suc n)) true in
        length_replaced made (at / 65536) (replicate (pages_at at (suc n)) true) (omega (arith, le, few))

module _ (pages : ℕ) (at : ℕ) (image : List ℕ) (within : at + length image ≤ 65536 * pages) where
  abbrev m : Linear
  m = written (fresh pages (Some pages)) at image

  abbrev front : List ℕ
  front = take at (zeros (65536 * pages))

  abbrev back : List ℕ
  back = drop (at + length image) (zeros (65536 * pages))

  front_long : length front ≡ at
  front_long = length-take-le at (zeros (65536 * pages)) (omega (arith, within, length_zeros (65536 * pages)))

  long : length m.bytes ≡ 65536 * pages
  long = length_replaced (zeros (65536 * pages)) at image (omega (arith, within, length_zeros (65536 * pages))) ∙ length_zeros (65536 * pages)

  made : size m ≡ pages
  made =
      let n = length-replicate pages false in
      touched_long (replicate pages false) at (length image) (omega (arith, within, n)) ∙ n

  static : take (length image) (drop at m.bytes) ≡ image
  static =
      ap (λ k. take (length image) (drop k (front ++ (image ++ back)))) (sym front_long)
      ∙ ap (take (length image)) (drop-append_seam front (image ++ back)) ∙ take-append_seam image back

  others : (i : ℕ) → (i < at) ⊎ (at + length image ≤ i) → get_or m.bytes i 0 ≡ 0
  others i (inl lt) = get_or_append_left front (image ++ back) 0 i (omega (arith, lt, front_long)) ∙ get_or-take at (zeros (65536 * pages)) i 0 lt ∙ zeros_byte (65536 * pages) i
  others i (inr le) =
      get_or-append_right front (image ++ back) at i 0 front_long (omega (arith, le))
      ∙ get_or-append_right image back (length image) (i - at) 0 refl (omega (arith, le))
      ∙ get_or-drop (at + length image) (zeros (65536 * pages)) (i - at - length image) 0 ∙ zeros_byte (65536 * pages) _

pub opened : (l : Layout) (image : List ℕ) (m : Linear) → Fits l → image_at l + length image ≤ 65536 * pages_of l → m ≡ written (fresh (pages_of l) (Some (pages_of l))) (image_at l) image → Opens l image m
opened l image m fits within e =
    let P : Linear → Type 0 = λ x. Opens l image x in
    subst P (sym e) (record {
      pages = made (pages_of l) (image_at l) image within;
      most = refl;
      long = long (pages_of l) (image_at l) image within;
      holds = omega (arith, long (pages_of l) (image_at l) image within);
      static = static (pages_of l) (image_at l) image within;
      others = others (pages_of l) (image_at l) image within;
      tables = λ kind lt.
          let n = long (pages_of l) (image_at l) image within in
          let most : (kind + 1) * table_len l.slots ≤ 14 * table_len l.slots = mul-le-mul_right (table_len l.slots) (omega (arith, lt)) in
          let split : (kind + 1) * table_len l.slots ≡ kind * table_len l.slots + table_len l.slots = grind arith in
          zeros-table (written (fresh (pages_of l) (Some (pages_of l))) (image_at l) image).bytes (table_at l kind) l.slots
          (omega (arith, n, most, split)) (omega (arith, fits, most, split)) (λ k low high. others (pages_of l) (image_at l) image within k (inl (omega (arith, high, most, split))));
    })
