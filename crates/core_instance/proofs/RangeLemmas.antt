-- Numbers that follow one another.
use Rattle.std.proofs.Common.{◌≡◌, ℕ, zero, suc, ◌+◌, ◌<◌, List, [], ◌∷◌, ◌++◌, length, Some, ap, append_assoc, ◌∙◌, subst, arith}
use Rattle.std.proofs.lemmas.List.FromFn.{length-range_with_len, get_or-range_with_len}
use Rattle.std.proofs.lemmas.Option.{slice_get-get_or}
use Rattle.std.specs.Prelude.{slice_get}
use Rattle.std.specs.List.{range_with_len}

range_next : (a n : ℕ) → range_with_len a n ++ (a + n) ∷ [] ≡ range_with_len a (suc n)
range_next a zero = ap (λ (k : ℕ). k ∷ []) (omega arith)
range_next a (suc n) =
    let far : a + suc n ≡ (a + 1) + n = omega arith in
    ap (λ (xs : List ℕ). a ∷ xs) (ap (λ (k : ℕ). range_with_len (a + 1) n ++ k ∷ []) far ∙ range_next (a + 1) n)

pub range_more : (a n : ℕ) → range_with_len a n ++ (a + n) ∷ [] ≡ range_with_len a (n + 1)
range_more a n =
    let same : suc n ≡ n + 1 = omega arith in
    range_next a n ∙ ap (range_with_len a) same

-- the places of a list in another, by position
pub get_behind : {X : Type 0} (xs ys : List X) (j : ℕ) → slice_get (xs ++ ys) (length xs + j) ≡ slice_get ys j
get_behind [] ys j =
    let same : 0 + j ≡ j = omega arith in
    ap (slice_get ys) same
get_behind (x ∷ xs) ys j =
    let next : length (x ∷ xs) + j ≡ suc (length xs + j) = omega arith in
    ap (slice_get (x ∷ (xs ++ ys))) next ∙ get_behind xs ys j

pub each_of_both : {X : Type 0} (R : ℕ → Type 0) (xs ys : List X) → ((k : ℕ) → k < length xs → R k) → ((k : ℕ) → k < length ys → R (length xs + k)) → (i : ℕ) → i < length (xs ++ ys) → R i
each_of_both R [] ys old new i lt = subst R (omega arith) (new i lt)
each_of_both R (x ∷ xs) ys old new zero lt = old zero (omega arith)
each_of_both R (x ∷ xs) ys old new (suc i) lt =
    each_of_both (λ k. R (suc k)) xs ys (λ k h. old (suc k) (omega (arith, h))) (λ k h. subst R (omega arith) (new k h)) i (omega (arith, lt))

pub get_range : (from count i : ℕ) → i < count → slice_get (range_with_len from count) i ≡ Some (from + i)
get_range from count i lt =
    slice_get-get_or (range_with_len from count) i 0 (omega (arith, lt, length-range_with_len from count)) ∙ ap Some (get_or-range_with_len from count i 0 lt)

-- one place more after those that are there
pub places_more : (places now next : List ℕ) (from n at : ℕ) → now ≡ places ++ range_with_len from n → at ≡ from + n → next ≡ now ++ at ∷ [] → next ≡ places ++ range_with_len from (n + 1)
places_more places now next from n at e f h =
    h ∙ (ap (λ (xs : List ℕ). xs ++ at ∷ []) e ∙ (append_assoc places (range_with_len from n) (at ∷ []) ∙ (ap (λ (k : ℕ). places ++ (range_with_len from n ++ k ∷ [])) f ∙ ap (λ (xs : List ℕ). places ++ xs) (range_more from n))))
