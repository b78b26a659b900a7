-- Numbers are read as they are spelled, and refused as the rule says.
use Rattle.std.proofs.Common.{◌≡◌, ℕ, ℤ, pos, negsuc, neg_ℤ, ◌+ℤ◌, ◌-ℤ◌, ◌*ℤ◌, ◌≤ℤ◌, ◌<ℤ◌, zero, suc, ◌+◌, ◌-◌, ◌*◌, ◌/◌, ◌%◌, ◌^◌, ◌<◌, ◌≤◌, Bool, true, false, cond, ltb, leb, List, [], ◌∷◌, ◌++◌, length, Result, Ok, Err, is_err, ◌⊎◌, inl, inr, refl, sym, ap, subst, ◌∙◌, append_assoc, arith}
use Rattle.std.proofs.lemmas.Bool.{ltb-true, lt-ltb, le-ltb, leb-true, le-leb, cases_lt}
use Rattle.std.proofs.lemmas.Int.{ints}
use Rattle.virt_base.specs.declared.cursor.Cursor.{Cursor}
use Rattle.virt_base.specs.declared.leb.LebFault.{LebFault}
use Rattle.virt_base.specs.declared.leb.LebFault.TheVariants.{Short, TooLong}
use Rattle.virt_base.specs.Place.{Place, Takes, Gives, rest, place}
use Rattle.virt_base.specs.Leb.{IsUnsigned, IsCut, IsTooLong, unsigned_at, above, seven, fits_seven, IsSigned, IsCutSigned, IsTooLongSigned, signed_at, above_signed, AnswersUnsigned, AnswersSigned, limit_of, shortest_unsigned, low_bits, shortest_by, shortest_signed, number_by, IsShortest}
use Rattle.std.specs.List.{AllByRecursion}

abbrev pub from : ℕ → List ℕ → Place
from at bytes = record { at = at; rest = bytes }

-- ---- unsigned

-- what the rule says of an answer of reading at this place
abbrev pub UnsignedSays : ℕ → ℕ → List ℕ → Result (ℕ × Place) LebFault → Type 0
UnsignedSays limit at bytes (Ok x) = (text : List ℕ) × IsUnsigned limit x.0 text × Takes text (from at bytes) x.1
UnsignedSays limit at bytes (Err Short) = IsCut limit bytes
UnsignedSays limit at bytes (Err TooLong) = IsTooLong limit bytes

longer : (limit at b : ℕ) (bs : List ℕ) (h : ℕ × Place) (text : List ℕ) → 128 ≤ b → 128 < limit → IsUnsigned (limit / 128) h.0 text → Takes text (from (at + 1) bs) h.1 → UnsignedSays limit at (b ∷ bs) (Ok (b - 128 + 128 * h.0, h.1))
longer limit at b bs h [] top wide s t = absurd s
longer limit at b bs h (c ∷ cs) top wide s t = (b ∷ c ∷ cs, (wide, top, (h.0, omega arith, s)), record { parts = ap (λ (z : List ℕ). b ∷ z) t.parts; moved = omega (arith, t.moved) })

above_says : (limit at b : ℕ) (bs : List ℕ) (r : Result (ℕ × Place) LebFault) → 128 ≤ b → 128 < limit → UnsignedSays (limit / 128) (at + 1) bs r → UnsignedSays limit at (b ∷ bs) (above b r)
above_says limit at b bs (Ok h) top wide s = longer limit at b bs h s.0 top wide s.1 s.2
above_says limit at b bs (Err Short) top wide s = (wide, top, s)
above_says limit at b bs (Err TooLong) top wide s = inr (wide, top, s)

pub unsigned_says : (limit at : ℕ) (bytes : List ℕ) → UnsignedSays limit at bytes (unsigned_at limit at bytes)
unfolding unsigned_at
unsigned_says limit at [] = tt
unsigned_says limit at (b ∷ bs) =
    elim (cases_lt b 128) [
      | inl low ↦ elim (cases_lt b limit) [
        | inl fits ↦ rw (lt-ltb _ _ low, lt-ltb _ _ fits) (b ∷ [], (low, fits, refl {a = b}), record { parts = refl; moved = refl })
        | inr over ↦ rw (lt-ltb _ _ low, le-ltb _ _ over) (inl (omega arith, over))
      ]
      | inr top ↦ elim (cases_lt 128 limit) [
        | inl wide ↦ rw (le-ltb _ _ top, lt-ltb _ _ wide) (above_says limit at b bs _ top wide (unsigned_says (limit / 128) (at + 1) bs))
        | inr last ↦ rw (le-ltb _ _ top, le-ltb _ _ last) (inl (last, omega arith))
      ]
    ]

pub unsigned_rule : (limit : ℕ) (old new : Cursor) (n : ℕ) → unsigned_at limit old.at (rest old) ≡ Ok (n, place new) → AnswersUnsigned limit old new (Ok n)
unsigned_rule limit old new n e = subst (UnsignedSays limit old.at (rest old)) e (unsigned_says limit old.at (rest old))

pub unsigned_refused : (limit : ℕ) (old : Cursor) (fault : LebFault) → unsigned_at limit old.at (rest old) ≡ Err fault → AnswersUnsigned limit old old (Err fault)
unsigned_refused limit old Short e = (subst (UnsignedSays limit old.at (rest old)) e (unsigned_says limit old.at (rest old)), refl)
unsigned_refused limit old TooLong e = (subst (UnsignedSays limit old.at (rest old)) e (unsigned_says limit old.at (rest old)), refl)

-- ---- signed

pub fits_bounds : (half b : ℕ) → b < 128 → fits_seven half b ≡ true → (neg_ℤ (pos half) ≤ℤ seven b) × (seven b <ℤ pos half)
fits_bounds half b low e =
    elim (cases_lt b 64) [
      | inl lt ↦
          let f : ltb b half ≡ true = rw (lt-ltb _ _ lt) at e in
          rw (lt-ltb _ _ lt) (omega (arith, ints), omega (arith, ints, ltb-true _ _ f))
      | inr ge ↦
          let f : leb 128 (b + half) ≡ true = rw (le-ltb _ _ ge) at e in
          rw (le-ltb _ _ ge, lt-ltb _ _ low) (omega (arith, ints, leb-true _ _ f), omega (arith, ints))
    ]

-- a byte without its top bit fits where another byte may follow
fits_wide : (half b : ℕ) → b < 128 → 64 < half → fits_seven half b ≡ true
fits_wide half b low wide =
    elim (cases_lt b 64) [
      | inl lt ↦ rw (lt-ltb _ _ lt) (lt-ltb _ _ (omega arith))
      | inr ge ↦ rw (le-ltb _ _ ge) (le-leb _ _ (omega arith))
    ]

abbrev pub SignedSays : ℕ → ℕ → List ℕ → Result (ℤ × Place) LebFault → Type 0
SignedSays half at bytes (Ok x) = (text : List ℕ) × IsSigned half x.0 text × Takes text (from at bytes) x.1
SignedSays half at bytes (Err Short) = IsCutSigned half bytes
SignedSays half at bytes (Err TooLong) = IsTooLongSigned half bytes

longer_signed : (half at b : ℕ) (bs : List ℕ) (h : ℤ × Place) (text : List ℕ) → 128 ≤ b → 64 < half → IsSigned (half / 128) h.0 text → Takes text (from (at + 1) bs) h.1 → SignedSays half at (b ∷ bs) (Ok (pos (b - 128) +ℤ pos 128 *ℤ h.0, h.1))
longer_signed half at b bs h [] top wide s t = absurd s
longer_signed half at b bs h (c ∷ cs) top wide s t = (b ∷ c ∷ cs, (wide, top, (h.0, refl, s)), record { parts = ap (λ (z : List ℕ). b ∷ z) t.parts; moved = omega (arith, t.moved) })

above_signed_says : (half at b : ℕ) (bs : List ℕ) (r : Result (ℤ × Place) LebFault) → 128 ≤ b → 64 < half → SignedSays (half / 128) (at + 1) bs r → SignedSays half at (b ∷ bs) (above_signed b r)
above_signed_says half at b bs (Ok h) top wide s = longer_signed half at b bs h s.0 top wide s.1 s.2
above_signed_says half at b bs (Err Short) top wide s = (wide, top, s)
above_signed_says half at b bs (Err TooLong) top wide s = inr (wide, top, s)

truth : (b : Bool) → (b ≡ true) ⊎ (b ≡ false)
truth true = inl refl
truth false = inr refl

on_true : {X : Type 0} (P : X → Type 0) (c : Bool) (x y : X) → c ≡ true → P x → P (cond c x y)
on_true P c x y e h = rw e h

on_false : {X : Type 0} (P : X → Type 0) (c : Bool) (x y : X) → c ≡ false → P y → P (cond c x y)
on_false P c x y e h = rw e h

narrow_of : (half b : ℕ) → b < 128 → fits_seven half b ≡ false → half ≤ 64
narrow_of half b low unfit = elim (cases_lt 64 half) [
  | inl wide ↦ let fit = fits_wide half b low wide in absurd cc
  | inr ok ↦ ok
]

pub signed_says : (half at : ℕ) (bytes : List ℕ) → SignedSays half at bytes (signed_at half at bytes)
unfolding signed_at
signed_says half at [] = tt
signed_says half at (b ∷ bs) =
    let P : Result (ℤ × Place) LebFault → Type 0 = SignedSays half at (b ∷ bs) in
    elim (cases_lt b 128) [
      | inl low ↦ elim (truth (fits_seven half b)) [
        | inl fit ↦
            let bounds = fits_bounds half b low fit in
            on_true P (ltb b 128) _ _ (lt-ltb _ _ low) (on_true P (fits_seven half b) _ _ fit (b ∷ [], (low, bounds.0, bounds.1, refl {a = seven b}), record { parts = refl; moved = refl }))
        | inr unfit ↦
            on_true P (ltb b 128) _ _ (lt-ltb _ _ low) (on_false P (fits_seven half b) _ _ unfit (inl (narrow_of half b low unfit, inr unfit)))
      ]
      | inr top ↦ elim (cases_lt 64 half) [
        | inl wide ↦ on_false P (ltb b 128) _ _ (le-ltb _ _ top) (on_true P (ltb 64 half) _ _ (lt-ltb _ _ wide) (above_signed_says half at b bs _ top wide (signed_says (half / 128) (at + 1) bs)))
        | inr last ↦ on_false P (ltb b 128) _ _ (le-ltb _ _ top) (on_false P (ltb 64 half) _ _ (le-ltb _ _ last) (inl (last, inl top)))
      ]
    ]

pub signed_rule : (half : ℕ) (old new : Cursor) (n : ℤ) → signed_at half old.at (rest old) ≡ Ok (n, place new) → AnswersSigned half old new (Ok n)
signed_rule half old new n e = subst (SignedSays half old.at (rest old)) e (signed_says half old.at (rest old))

pub signed_refused : (half : ℕ) (old : Cursor) (fault : LebFault) → signed_at half old.at (rest old) ≡ Err fault → AnswersSigned half old old (Err fault)
signed_refused half old Short e = (subst (SignedSays half old.at (rest old)) e (signed_says half old.at (rest old)), refl)
signed_refused half old TooLong e = (subst (SignedSays half old.at (rest old)) e (signed_says half old.at (rest old)), refl)

-- a refusal, after which the cursor was put back
pub signed_back : (half : ℕ) (old new : Cursor) (r : Result ℤ LebFault) → is_err r ≡ true → Gives r new (signed_at half old.at (rest old)) → AnswersSigned half old old r
signed_back half old new (Ok n) h e = absurd cc
signed_back half old new (Err f) h e = signed_refused half old f e

pub signed_went : (half : ℕ) (old new : Cursor) (r : Result ℤ LebFault) → is_err r ≡ false → Gives r new (signed_at half old.at (rest old)) → AnswersSigned half old new r
signed_went half old new (Ok n) h e = signed_rule half old new n e
signed_went half old new (Err f) h e = absurd cc

-- ---- what is spelled is read again, whatever follows

abbrev pub after : ℕ → List ℕ → List ℕ → Place
after at text more = record { at = at + length text; rest = more }

pub unsigned_again : (limit n : ℕ) (text : List ℕ) (at : ℕ) (more : List ℕ) → IsUnsigned limit n text → unsigned_at limit at (text ++ more) ≡ Ok (n, after at text more)
unfolding unsigned_at
unsigned_again limit n [] at more s = absurd s
unsigned_again limit n (b ∷ []) at more s =
    let low : ltb b 128 ≡ true = lt-ltb _ _ s.0 in
    let fits : ltb b limit ≡ true = lt-ltb _ _ s.1 in
    rw (low, fits, s.2) refl
unsigned_again limit n (b ∷ c ∷ bs) at more s =
    let high : ltb b 128 ≡ false = le-ltb _ _ s.1 in
    let wide : ltb 128 limit ≡ true = lt-ltb _ _ s.0 in
    let rest = unsigned_again (limit / 128) s.2.0 (c ∷ bs) (at + 1) more s.2.2 in
    let n-is : b - 128 + 128 * s.2.0 ≡ n = omega (arith, s.1, s.2.1) in
    let far : at + 1 + length (c ∷ bs) ≡ at + length (b ∷ c ∷ bs) = omega arith in
    rw (high, wide, rest) (ap (λ (m : ℕ). Ok (m, record { at = at + 1 + length (c ∷ bs); rest = more })) n-is ∙ ap (λ (k : ℕ). Ok (n, record { at = k; rest = more })) far)

abbrev seven_down : ℕ → ℤ
seven_down b = pos b -ℤ pos 128

pub bounds_fit : (half b : ℕ) → b < 128 → neg_ℤ (pos half) ≤ℤ seven b → seven b <ℤ pos half → fits_seven half b ≡ true
bounds_fit half b small low high =
    elim (cases_lt b 64) [
      | inl lt ↦
          let h : pos b <ℤ pos half = rw (lt-ltb _ _ lt) at high in
          rw (lt-ltb _ _ lt) (lt-ltb _ _ (omega (arith, ints, h)))
      | inr ge ↦
          let h : neg_ℤ (pos half) ≤ℤ seven_down b = rw (le-ltb _ _ ge) at low in
          rw (le-ltb _ _ ge) (le-leb _ _ (omega (arith, ints, h)))
    ]

two_true : (c d : Bool) (x : ℤ × Place) (y : Result (ℤ × Place) LebFault) → c ≡ true → d ≡ true → cond c (cond d (Ok x) (Err TooLong)) y ≡ Ok x
two_true c d x y e f = rw (e, f) refl

pub signed_again : (half : ℕ) (n : ℤ) (text : List ℕ) (at : ℕ) (more : List ℕ) → IsSigned half n text → signed_at half at (text ++ more) ≡ Ok (n, after at text more)
unfolding signed_at
signed_again half n [] at more s = absurd s
signed_again half n (b ∷ []) at more s =
    let fit : fits_seven half b ≡ true = bounds_fit half b s.0 (subst (λ (k : ℤ). neg_ℤ (pos half) ≤ℤ k) s.3 s.1) (subst (λ (k : ℤ). k <ℤ pos half) s.3 s.2) in
    two_true (ltb b 128) (fits_seven half b) (seven b, record { at = at + 1; rest = more }) _ (lt-ltb _ _ s.0) fit ∙ ap (λ (k : ℤ). Ok (k, record { at = at + 1; rest = more })) (sym s.3)
signed_again half n (b ∷ c ∷ bs) at more s =
    let rest = signed_again (half / 128) s.2.0 (c ∷ bs) (at + 1) more s.2.2 in
    let far : at + 1 + length (c ∷ bs) ≡ at + length (b ∷ c ∷ bs) = omega arith in
    rw (le-ltb _ _ s.1, lt-ltb _ _ s.0, rest) (ap (λ (k : ℤ). Ok (k, record { at = at + 1 + length (c ∷ bs); rest = more })) (sym s.2.1) ∙ ap (λ (k : ℕ). Ok (n, record { at = k; rest = more })) far)

-- ---- the shortest spellings are spellings

longer_unsigned : (limit n b high : ℕ) (text : List ℕ) → 128 < limit → 128 ≤ b → n + 128 ≡ b + 128 * high → IsUnsigned (limit / 128) high text → IsUnsigned limit n (b ∷ text)
longer_unsigned limit n b high [] wide top e s = absurd s
longer_unsigned limit n b high (c ∷ bs) wide top e s = (wide, top, (high, e, s))

pub unsigned_spelled : (base more n : ℕ) → base ≤ 128 → n < limit_of base more → IsUnsigned (limit_of base more) n (shortest_unsigned more n)
unsigned_spelled base zero n small fits = (omega arith, fits, refl)
unsigned_spelled base (suc more) n small fits =
    elim (cases_lt n 128) [
      | inl low ↦ rw (lt-ltb _ _ low) (low, fits, refl)
      | inr high ↦
          let less : limit_of base (suc more) / 128 ≡ limit_of base more = omega arith in
          let rest = unsigned_spelled base more (n / 128) small (omega arith) in
          rw (le-ltb _ _ high) (longer_unsigned (limit_of base (suc more)) n (n % 128 + 128) (n / 128) (shortest_unsigned more (n / 128)) (omega arith) (omega arith) (omega arith) (rw less rest))
    ]

-- the shortest spelling of a number of 32 bits is one
pub u32_spelled : (n : ℕ) → n < 2 ^ 32 → IsUnsigned (2 ^ 32) n (shortest_unsigned 4 n)
u32_spelled n fits = unsigned_spelled 16 4 n (omega arith) fits

longer_spelled : (half b : ℕ) (n high : ℤ) (text : List ℕ) → 64 < half → 128 ≤ b → n ≡ pos (b - 128) +ℤ pos 128 *ℤ high → IsSigned (half / 128) high text → IsSigned half n (b ∷ text)
longer_spelled half b n high [] wide top e s = absurd s
longer_spelled half b n high (c ∷ bs) wide top e s = (wide, top, (high, e, s))

-- the same by negation, as `omega` has it
abbrev number_of : Bool → ℕ → ℤ
number_of false m = pos m
number_of true m = neg_ℤ (pos m) -ℤ pos 1

last_spelled : (negative : Bool) (half m : ℕ) → m < 64 → m < half → IsSigned half (number_of negative m) (low_bits negative m ∷ [])
last_spelled false half m low fits =
    (omega arith, omega (arith, ints), omega (arith, ints), rw (lt-ltb _ _ low) refl)
last_spelled true half m low fits =
    let top : 64 ≤ 127 - m = omega arith in
    (omega arith, omega (arith, ints), omega (arith, ints), rw (le-ltb _ _ top) (omega (arith, ints)))

split_number : (negative : Bool) (m : ℕ) → number_of negative m ≡ pos (low_bits negative (m % 128) + 128 - 128) +ℤ pos 128 *ℤ number_of negative (m / 128)
split_number false m = omega (arith, ints)
split_number true m = omega (arith, ints)

by_spelled : (negative : Bool) (base more m : ℕ) → base ≤ 64 → m < limit_of base more → IsSigned (limit_of base more) (number_of negative m) (shortest_by negative more m)
by_spelled negative base zero m small fits = last_spelled negative base m (omega arith) fits
by_spelled negative base (suc more) m small fits =
    elim (cases_lt m 64) [
      | inl low ↦ rw (lt-ltb _ _ low) (last_spelled negative (limit_of base (suc more)) m low fits)
      | inr high ↦
          let less : limit_of base (suc more) / 128 ≡ limit_of base more = omega arith in
          let rest = by_spelled negative base more (m / 128) small (omega arith) in
          rw (le-ltb _ _ high) (longer_spelled (limit_of base (suc more)) (low_bits negative (m % 128) + 128) (number_of negative m) (number_of negative (m / 128)) (shortest_by negative more (m / 128)) (omega arith) (omega arith) (split_number negative m) (rw less rest))
    ]

below_zero : (k m : ℕ) → k ≡ suc m → neg_ℤ (pos k) ≡ number_of true m
below_zero k m e = omega (arith, ints, e)

negsuc_is : (m : ℕ) → negsuc m ≡ number_of true m
negsuc_is m = below_zero (suc m) m refl

pub signed_spelled : (base more : ℕ) (n : ℤ) → base ≤ 64 → neg_ℤ (pos (limit_of base more)) ≤ℤ n → n <ℤ pos (limit_of base more) → IsSigned (limit_of base more) n (shortest_signed more n)
signed_spelled base more (pos m) small low high = by_spelled false base more m small (omega (arith, ints, high))
signed_spelled base more (negsuc m) small low high =
    let low2 : neg_ℤ (pos (limit_of base more)) ≤ℤ number_of true m = rw (negsuc_is m) at low in
    let s : IsSigned (limit_of base more) (number_of true m) (shortest_by true more m) = by_spelled true base more m small (omega (arith, ints, low2)) in
    subst (λ (k : ℤ). IsSigned (limit_of base more) k (shortest_by true more m)) (sym (negsuc_is m)) s

-- room for more bytes than the number needs changes nothing
no_longer : (negative : Bool) (some more m : ℕ) → some ≤ more → m < limit_of 64 some → shortest_by negative more m ≡ shortest_by negative some m
no_longer negative zero zero m h fits = refl
no_longer negative zero (suc more) m h fits = rw (lt-ltb _ _ fits) refl
no_longer negative (suc some) zero m h fits = absurd (omega arith)
no_longer negative (suc some) (suc more) m h fits =
    elim (cases_lt m 64) [
      | inl low ↦ rw (lt-ltb _ _ low) refl
      | inr high ↦ rw (le-ltb _ _ high) (ap (λ (z : List ℕ). (low_bits negative (m % 128) + 128) ∷ z) (no_longer negative some more (m / 128) (omega arith) (omega arith)))
    ]

pub signed_no_longer : (some more : ℕ) (n : ℤ) → some ≤ more → neg_ℤ (pos (limit_of 64 some)) ≤ℤ n → n <ℤ pos (limit_of 64 some) → shortest_signed more n ≡ shortest_signed some n
signed_no_longer some more (pos m) h low high = no_longer false some more m h (omega (arith, ints, high))
signed_no_longer some more (negsuc m) h low high =
    let low2 : neg_ℤ (pos (limit_of 64 some)) ≤ℤ number_of true m = rw (negsuc_is m) at low in
    no_longer true some more m h (omega (arith, ints, low2))

pub s64_spelled : (n : ℤ) → neg_ℤ (pos (2 ^ 63)) ≤ℤ n → n <ℤ pos (2 ^ 63) → IsSigned (2 ^ 63) n (shortest_signed 9 n)
s64_spelled n low high = signed_spelled 1 9 n (omega arith) low high

-- the same bytes are a spelling in fewer bits, where the number is of that many
pub s33_spelled : (n : ℤ) → neg_ℤ (pos (2 ^ 32)) ≤ℤ n → n <ℤ pos (2 ^ 32) → IsSigned (2 ^ 32) n (shortest_signed 9 n)
s33_spelled n low high =
    rw (signed_no_longer 4 9 n (omega arith) (omega (arith, ints, low)) (omega (arith, ints, high))) (signed_spelled 16 4 n (omega arith) low high)

pub s32_spelled : (n : ℤ) → neg_ℤ (pos (2 ^ 31)) ≤ℤ n → n <ℤ pos (2 ^ 31) → IsSigned (2 ^ 31) n (shortest_signed 9 n)
s32_spelled n low high =
    rw (signed_no_longer 4 9 n (omega arith) (omega (arith, ints, low)) (omega (arith, ints, high))) (signed_spelled 8 4 n (omega arith) low high)

-- ---- no spelling is shorter

filled : (limit n : ℕ) (text : List ℕ) → IsUnsigned limit n text → 1 ≤ length text
filled limit n [] s = absurd s
filled limit n (b ∷ bs) s = omega arith

pub unsigned_least : (limit more n : ℕ) (text : List ℕ) → AllByRecursion (λ b. b < 256) text → IsUnsigned limit n text → length (shortest_unsigned more n) ≤ length text
unsigned_least limit zero n text small s = filled limit n text s
unsigned_least limit (suc more) n [] small s = absurd s
unsigned_least limit (suc more) n (b ∷ []) small s = rw (lt-ltb n 128 (omega (arith, s.0, s.2))) (omega arith)
unsigned_least limit (suc more) n (b ∷ c ∷ bs) small s =
    elim (cases_lt n 128) [
      | inl low ↦ rw (lt-ltb _ _ low) (omega arith)
      | inr high ↦
          let above : s.2.0 ≡ n / 128 = omega (arith, s.1, s.2.1, small.0) in
          let rest = unsigned_least (limit / 128) more (n / 128) (c ∷ bs) small.1 (subst (λ (k : ℕ). IsUnsigned (limit / 128) k (c ∷ bs)) above s.2.2) in
          rw (le-ltb _ _ high) (omega (arith, rest))
    ]

filled_signed : (half : ℕ) (n : ℤ) (text : List ℕ) → IsSigned half n text → 1 ≤ length text
filled_signed half n [] s = absurd s
filled_signed half n (b ∷ bs) s = omega arith

seven_small : (b : ℕ) → b < 128 → (neg_ℤ (pos 64) ≤ℤ seven b) × (seven b <ℤ pos 64)
seven_small b low =
    elim (cases_lt b 64) [
      | inl lt ↦ rw (lt-ltb _ _ lt) (omega (arith, ints), omega (arith, ints))
      | inr ge ↦ rw (le-ltb _ _ ge) (omega (arith, ints), omega (arith, ints))
    ]

by_small : (negative : Bool) (b m : ℕ) → b < 128 → number_of negative m ≡ seven b → m < 64
by_small false b m low e = let s = seven_small b low in omega (arith, ints, s.0, s.1, e)
by_small true b m low e = let s = seven_small b low in omega (arith, ints, s.0, s.1, e)

by_above : (negative : Bool) (b m : ℕ) (high : ℤ) → 128 ≤ b → b < 256 → number_of negative m ≡ pos (b - 128) +ℤ pos 128 *ℤ high → high ≡ number_of negative (m / 128)
by_above false b m high top small e = omega (arith, ints, e)
by_above true b m high top small e = omega (arith, ints, e)

by_least : (negative : Bool) (half more m : ℕ) (text : List ℕ) → AllByRecursion (λ b. b < 256) text → IsSigned half (number_of negative m) text → length (shortest_by negative more m) ≤ length text
by_least negative half zero m text small s = filled_signed half (number_of negative m) text s
by_least negative half (suc more) m [] small s = absurd s
by_least negative half (suc more) m (b ∷ []) small s = rw (lt-ltb m 64 (by_small negative b m s.0 s.3)) (omega arith)
by_least negative half (suc more) m (b ∷ c ∷ bs) small s =
    elim (cases_lt m 64) [
      | inl low ↦ rw (lt-ltb _ _ low) (omega arith)
      | inr high ↦
          let above = by_above negative b m s.2.0 s.1 small.0 s.2.1 in
          let rest = by_least negative (half / 128) more (m / 128) (c ∷ bs) small.1 (subst (λ (k : ℤ). IsSigned (half / 128) k (c ∷ bs)) above s.2.2) in
          rw (le-ltb _ _ high) (omega (arith, rest))
    ]

pub signed_least : (half more : ℕ) (n : ℤ) (text : List ℕ) → AllByRecursion (λ b. b < 256) text → IsSigned half n text → length (shortest_signed more n) ≤ length text
signed_least half more (pos m) text small s = by_least false half more m text small s
signed_least half more (negsuc m) text small s = by_least true half more m text small (subst (λ (k : ℤ). IsSigned half k text) (negsuc_is m) s)

pub u32_shortest : (n : ℕ) → n < 2 ^ 32 → IsShortest (IsUnsigned (2 ^ 32) n) (shortest_unsigned 4 n)
u32_shortest n fits = record { spelled = u32_spelled n fits; least = λ text small s. unsigned_least (2 ^ 32) 4 n text small s }

pub s64_shortest : (n : ℤ) → neg_ℤ (pos (2 ^ 63)) ≤ℤ n → n <ℤ pos (2 ^ 63) → IsShortest (IsSigned (2 ^ 63) n) (shortest_signed 9 n)
s64_shortest n low high = record { spelled = s64_spelled n low high; least = λ text small s. signed_least (2 ^ 63) 9 n text small s }

-- ---- written byte by byte

pub unsigned_more : (more n : ℕ) → 128 ≤ n → n < limit_of 128 more → shortest_unsigned more n ≡ (n % 128 + 128) ∷ shortest_unsigned (more - 1) (n / 128)
unsigned_more zero n big fits = absurd (omega (arith, big, fits))
unsigned_more (suc more) n big fits =
    let e : suc more - 1 ≡ more = omega arith in
    rw (le-ltb _ _ big, e) refl

pub signed_more : (negative : Bool) (more m : ℕ) → 64 ≤ m → m < limit_of 64 more → shortest_by negative more m ≡ (low_bits negative (m % 128) + 128) ∷ shortest_by negative (more - 1) (m / 128)
signed_more negative zero m big fits = absurd (omega (arith, big, fits))
signed_more negative (suc more) m big fits =
    let e : suc more - 1 ≡ more = omega arith in
    rw (le-ltb _ _ big, e) refl

-- a byte, and what stands after it
pub one_then : (old new last rest : List ℕ) (byte : ℕ) (all : List ℕ) → all ≡ byte ∷ rest → new ≡ old ++ byte ∷ [] → last ≡ new ++ rest → last ≡ old ++ all
one_then old new last rest byte all split pushed written =
    written ∙ ap (λ (z : List ℕ). z ++ rest) pushed ∙ append_assoc old (byte ∷ []) rest ∙ ap (λ (z : List ℕ). old ++ z) (sym split)

pub shortest_by_is : (n : ℤ) (negative : Bool) (m more : ℕ) → n ≡ number_by negative m → shortest_by negative more m ≡ shortest_signed more n
shortest_by_is n false m more e = rw e refl
shortest_by_is n true m more e = rw e refl
