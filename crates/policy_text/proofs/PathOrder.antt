-- The order of keys: what lies in a path stands right after it.
use Rattle.std.proofs.Common.{◌≡◌, ◌∙◌, refl, ap, ℕ, List, [], ◌∷◌, Bool, true, false, not, cond, map, length, get_or, arith, nat_cmp, ◌<◌}
use Rattle.std.specs.Prelude.{◌==◌, nat_eq, nat_lt, ◌&&◌}
use Rattle.std.specs.List.{starts_with}
use Rattle.std.specs.Cmp.Lexicographic.{slice_cmp}
use Rattle.std.specs.Ordering.{is_le, is_lt}
use Rattle.std.specs.declared.cmp.Ordering.{Ordering}
use Rattle.std.proofs.lemmas.Bool.Decides.{nat_tests}
use Rattle.std.proofs.lemmas.Cmp.{same_from_slice_cmp}
use Rattle.path_names.specs.Paths.{covers}
use Rattle.policy_text.specs.PathKeys.{rank, unrank}

-- `covers`, at keys
abbrev pub within : List ℕ → List ℕ → Bool
within [] [] = true
within [] (x ∷ b) = x == 0
within (x ∷ a) [] = false
within (x ∷ a) (y ∷ b) = (x == y) && within a b

pub unrank-rank : (x : ℕ) → unrank (rank x) ≡ x
unrank-rank x = grind (arith, nat_tests)

pub unrank_all : (xs : List ℕ) → map unrank (map rank xs) ≡ xs
unrank_all [] = refl
unrank_all (x ∷ xs) = ap (λ y. y ∷ map unrank (map rank xs)) (unrank-rank x) ∙ ap (λ ys. x ∷ ys) (unrank_all xs)

same_unranked : (x y : ℕ) → (unrank x == unrank y) ≡ (x == y)
same_unranked x y = grind (arith, nat_tests)

slash_unranked : (x : ℕ) → (unrank x == 47) ≡ (x == 0)
slash_unranked x = grind (arith, nat_tests)

pub covers-unrank : (a b : List ℕ) → covers (map unrank a) (map unrank b) ≡ within a b
covers-unrank [] [] = refl
covers-unrank [] (y ∷ b) = slash_unranked y
covers-unrank (x ∷ a) [] = refl
covers-unrank (x ∷ a) (y ∷ b) = ap (λ v. v && covers (map unrank a) (map unrank b)) (same_unranked x y) ∙ ap (λ v. (x == y) && v) (covers-unrank a b)

-- ---- the order of keys as tests

abbrev pub upto : List ℕ → List ℕ → Bool
upto [] ys = true
upto (x ∷ xs) [] = false
upto (x ∷ xs) (y ∷ ys) = cond (x == y) (upto xs ys) (nat_lt x y)

abbrev pub before : List ℕ → List ℕ → Bool
before [] [] = false
before [] (y ∷ ys) = true
before (x ∷ xs) [] = false
before (x ∷ xs) (y ∷ ys) = cond (x == y) (before xs ys) (nat_lt x y)

pub is_upto : (xs ys : List ℕ) (o : Ordering) → o ≡ slice_cmp nat_cmp xs ys → is_le o ≡ upto xs ys
is_upto = same_from_slice_cmp nat_cmp is_le upto refl (λ _ _. refl) (λ _ _. refl) (λ x y xs ys o h. grind (arith, nat_tests))

pub is_before : (xs ys : List ℕ) (o : Ordering) → o ≡ slice_cmp nat_cmp xs ys → is_lt o ≡ before xs ys
is_before = same_from_slice_cmp nat_cmp is_lt before refl (λ _ _. refl) (λ _ _. refl) (λ x y xs ys o h. grind (arith, nat_tests))

pub not_before : (xs ys : List ℕ) → not (before xs ys) ≡ upto ys xs
not_before [] [] = refl
not_before [] (y ∷ ys) = refl
not_before (x ∷ xs) [] = refl
not_before (x ∷ xs) (y ∷ ys) = grind (arith, nat_tests, not_before xs ys)

pub before_upto : (xs ys : List ℕ) → before xs ys ≡ true → upto xs ys ≡ true
before_upto [] ys h = refl
before_upto (x ∷ xs) [] h = h
before_upto (x ∷ xs) (y ∷ ys) h = grind (arith, nat_tests, before_upto xs ys)

pub upto_through : (xs ys zs : List ℕ) → upto xs ys ≡ true → upto ys zs ≡ true → upto xs zs ≡ true
upto_through [] ys zs h k = refl
upto_through (x ∷ xs) [] zs h k = grind (arith, nat_tests)
upto_through (x ∷ xs) (y ∷ ys) [] h k = k
upto_through (x ∷ xs) (y ∷ ys) (z ∷ zs) h k = grind (arith, nat_tests, upto_through xs ys zs)

-- what lies in a path is after it
pub within_upto : (a b : List ℕ) → within a b ≡ true → upto a b ≡ true
within_upto [] b h = refl
within_upto (x ∷ a) [] h = h
within_upto (x ∷ a) (y ∷ b) h = grind (arith, nat_tests, within_upto a b)

-- and so is all that is between
pub within_between : (a x b : List ℕ) → upto a x ≡ true → upto x b ≡ true → within a b ≡ true → within a x ≡ true
within_between [] [] b h k w = refl
within_between [] (x ∷ xs) [] h k w = grind (arith, nat_tests)
within_between [] (x ∷ xs) (y ∷ b) h k w = grind (arith, nat_tests)
within_between (c ∷ a) [] b h k w = h
within_between (c ∷ a) (x ∷ xs) [] h k w = grind (arith, nat_tests)
within_between (c ∷ a) (x ∷ xs) (y ∷ b) h k w = grind (arith, nat_tests, within_between a xs b)

-- ---- the same test by prefixes

pub within_longer : (a b : List ℕ) → starts_with nat_eq b a ≡ true → (d : ℕ) → length a < length b → within a b ≡ (get_or b (length a) d == 0)
within_longer [] [] h d n = absurd (omega arith)
within_longer [] (y ∷ b) h d n = refl
within_longer (x ∷ a) [] h d n = absurd (omega arith)
within_longer (x ∷ a) (y ∷ b) h d n = grind (arith, nat_tests, within_longer a b)

pub within_same : (a b : List ℕ) → starts_with nat_eq b a ≡ true → length b ≡ length a → within a b ≡ true
within_same [] [] h n = refl
within_same [] (y ∷ b) h n = absurd (omega arith)
within_same (x ∷ a) [] h n = absurd (omega arith)
within_same (x ∷ a) (y ∷ b) h n = grind (arith, nat_tests, within_same a b)

pub not_within : (a b : List ℕ) → starts_with nat_eq b a ≡ false → within a b ≡ false
not_within [] [] h = grind (arith, nat_tests)
not_within [] (y ∷ b) h = grind (arith, nat_tests)
not_within (x ∷ a) [] h = refl
not_within (x ∷ a) (y ∷ b) h = grind (arith, nat_tests, not_within a b)
