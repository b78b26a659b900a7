-- Lists that begin alike.
use Rattle.std.proofs.Common.{◌≡◌, ◌-◌, ◌<◌, ℕ, zero, suc, refl, sym, Bool, true, false, ◌&&◌, List, [], ◌∷◌, ◌++◌, take, arith}
use Rattle.std.specs.Prelude.{◌/◌, ◌%◌, ◌^◌, ◌==◌}
use Rattle.policy_data.specs.Addresses.{bits}
use Rattle.net_policy.specs.Allowed.{same_bit, same_front}

pub and-assoc : (a b c : Bool) → ((a && b) && c) ≡ (a && (b && c))
and-assoc true b c = refl
and-assoc false b c = refl

pub zero-minus : (w : ℕ) → 0 - w ≡ 0
zero-minus w = omega arith

pub minus-zero : (n : ℕ) → n - 0 ≡ n
minus-zero n = omega arith

-- the bits of the first numbers, and then those of the others
pub same_front_bits : (n w a b : ℕ) (xs ys : List Bool) → same_front n (bits w a ++ xs) (bits w b ++ ys) ≡ (same_front n (bits w a) (bits w b) && same_front (n - w) xs ys)
same_front_bits zero w a b xs ys = rw (zero-minus w) refl
same_front_bits (suc n) zero a b xs ys = rw (minus-zero (suc n)) refl
same_front_bits (suc n) (suc w) a b xs ys =
    let less : suc n - suc w ≡ n - w = omega arith in
    rw (less, same_front_bits n w a b xs ys) (sym (and-assoc (same_bit ((a / 2 ^ w) % 2 == 1) ((b / 2 ^ w) % 2 == 1)) (same_front n (bits w a) (bits w b)) (same_front (n - w) xs ys)))

-- no number against some
pub same_front_none : (n w b : ℕ) (ys : List Bool) → 0 < n → 0 < w → same_front n [] (bits w b ++ ys) ≡ false
same_front_none zero w b ys h k = absurd (omega arith)
same_front_none (suc n) zero b ys h k = absurd (omega arith)
same_front_none (suc n) (suc w) b ys h k = refl

pub same_front_some : (n w a : ℕ) (xs : List Bool) → 0 < n → 0 < w → same_front n (bits w a ++ xs) [] ≡ false
same_front_some zero w a xs h k = absurd (omega arith)
same_front_some (suc n) zero a xs h k = absurd (omega arith)
same_front_some (suc n) (suc w) a xs h k = refl

pub same_front_both_none : (n : ℕ) → same_front n [] [] ≡ true
same_front_both_none zero = refl
same_front_both_none (suc n) = refl

pub same_bit-equal : (a b : Bool) → same_bit a b ≡ true → a ≡ b
same_bit-equal true true e = refl
same_bit-equal true false e = absurd (cc)
same_bit-equal false true e = absurd (cc)
same_bit-equal false false e = refl

pub same_bit-refl : (a : Bool) → same_bit a a ≡ true
same_bit-refl true = refl
same_bit-refl false = refl

pub and-left : (a b : Bool) → (a && b) ≡ true → a ≡ true
and-left true b e = refl
and-left false b e = e

pub and-right : (a b : Bool) → (a && b) ≡ true → b ≡ true
and-right true b e = e
and-right false b e = absurd (cc)

pub taken_alike : (n : ℕ) (xs ys : List Bool) → same_front n xs ys ≡ true → take n xs ≡ take n ys
taken_alike zero xs ys e = refl
taken_alike (suc n) [] [] e = refl
taken_alike (suc n) [] (b ∷ ys) e = absurd (cc)
taken_alike (suc n) (a ∷ xs) [] e = absurd (cc)
taken_alike (suc n) (a ∷ xs) (b ∷ ys) e =
    let first = same_bit-equal a b (and-left (same_bit a b) (same_front n xs ys) e) in
    let rest = taken_alike n xs ys (and-right (same_bit a b) (same_front n xs ys) e) in
    cc

pub heads : {A : Type 0} (a b : A) (xs ys : List A) → a ∷ xs ≡ b ∷ ys → a ≡ b
heads a b xs ys e = cc

pub tails : {A : Type 0} (a b : A) (xs ys : List A) → a ∷ xs ≡ b ∷ ys → xs ≡ ys
tails a b xs ys e = cc

pub alike_taken : (n : ℕ) (xs ys : List Bool) → take n xs ≡ take n ys → same_front n xs ys ≡ true
alike_taken zero xs ys e = refl
alike_taken (suc n) [] [] e = refl
alike_taken (suc n) [] (b ∷ ys) e = absurd (cc)
alike_taken (suc n) (a ∷ xs) [] e = absurd (cc)
alike_taken (suc n) (a ∷ xs) (b ∷ ys) e =
    let first : a ≡ b = heads a b (take n xs) (take n ys) e in
    let rest = alike_taken n xs ys (tails a b (take n xs) (take n ys) e) in
    rw (first, same_bit-refl b) rest
