-- What is picked from a list is what stands at rising places.
use Rattle.std.proofs.Common.{◌≡◌, ℕ, zero, suc, ◌+◌, ◌<◌, ◌≤◌, Bool, true, false, List, [], ◌∷◌, length, take, drop, map, filter_map, slice_get, get_or, position, Option, Some, None, refl, sym, ap, ◌∙◌, inl, inr, ◌⊎◌, arith}
use Rattle.std.specs.List.{position_or_len}
use Rattle.std.proofs.lemmas.Bool.{cases_lt}
use Rattle.std.proofs.lemmas.Grind.{common_steps}
use Rattle.std.proofs.lemmas.Option.{slice_get_within, get_or_from_slice_get}
use Rattle.std.proofs.lemmas.List.Sums.{passes_at_first, fails_before_first}

-- ---- the first that passes

module _ {A : Type 0} (test : A → Bool) (xs : List A) (i : ℕ) (x : A) (there : slice_get xs i ≡ Some x) (passes : test x ≡ true) (before : (j : ℕ) (y : A) → j < i → slice_get xs j ≡ Some y → test y ≡ false) where
  inside : i < length xs
  inside = slice_get_within xs i x there

  here : get_or xs i x ≡ x
  here = get_or_from_slice_get xs i x x there

  not_later : i < position_or_len test xs → ⊥
  not_later more =
      let fails : test (get_or xs i x) ≡ false = fails_before_first test xs i x more in
      let clash : true ≡ false = sym passes ∙ ap test (sym here) ∙ fails in
      cc

  not_before : position_or_len test xs < i → ⊥
  not_before less =
      let m = position_or_len test xs in
      let within : m < length xs = omega (arith, inside, less) in
      let good : test (get_or xs m x) ≡ true = passes_at_first test xs x within in
      let bad : test (get_or xs m x) ≡ false = before m (get_or xs m x) less (at_place xs m x within) in
      let clash : true ≡ false = sym good ∙ bad in
      cc
    where
      at_place : {B : Type 0} (ys : List B) (k : ℕ) (d : B) → k < length ys → slice_get ys k ≡ Some (get_or ys k d)
      at_place [] k d w = absurd (omega arith)
      at_place (y ∷ ys) zero d w = refl
      at_place (y ∷ ys) (suc k) d w = at_place ys k d (omega (arith, w))

  pub first_place : position test xs ≡ Some i
  first_place =
      let same : position_or_len test xs ≡ i = elim (cases_lt i (position_or_len test xs)) [
        | inl more ↦ absurd (not_later more)
        | inr most ↦ elim (cases_lt (position_or_len test xs) i) [ inl less ↦ absurd (not_before less) | inr least ↦ omega (arith, most, least) ]
      ] in
      let within : position_or_len test xs < length xs = omega (arith, inside, same) in
      grind (arith, common_steps, same, within)

-- ---- all that pass

module _ {A R D : Type 0} (pick : A → Option D) (place : R → ℕ) (value : R → D) where
  abbrev pub Rising : List R → Type 0
  Rising rs = (a b : ℕ) (x y : R) → a < b → slice_get rs a ≡ Some x → slice_get rs b ≡ Some y → place x < place y

  -- each is picked from its place, where the first of the list has this place
  abbrev pub Picked : List A → ℕ → List R → Type 0
  Picked es from rs = (a : ℕ) (x : R) → slice_get rs a ≡ Some x → (k : ℕ) × (e : A) × (place x ≡ from + k) × (slice_get es k ≡ Some e) × (pick e ≡ Some (value x))

  abbrev pub Whole : List A → ℕ → List R → Type 0
  Whole es from rs = (k : ℕ) (e : A) (d : D) → slice_get es k ≡ Some e → pick e ≡ Some d → (a : ℕ) × (x : R) × (slice_get rs a ≡ Some x) × (place x ≡ from + k)

  abbrev Goal : List A → List R → Type 0
  Goal es rs = filter_map pick es ≡ map value rs

  skipped : (e : A) (es : List A) → pick e ≡ None → filter_map pick (e ∷ es) ≡ filter_map pick es
  skipped e es is = rw is refl

  taken : (e : A) (es : List A) (d : D) → pick e ≡ Some d → filter_map pick (e ∷ es) ≡ d ∷ filter_map pick es
  taken e es d is = rw is refl

  -- the first is not picked
  skip_picked : (e : A) (es : List A) (from : ℕ) (rs : List R) → pick e ≡ None → Picked (e ∷ es) from rs → Picked es (from + 1) rs
  skip_picked e es from rs is two a x s = by (two a x s)
    where
      by : (k : ℕ) × (e' : A) × (place x ≡ from + k) × (slice_get (e ∷ es) k ≡ Some e') × (pick e' ≡ Some (value x)) → (k : ℕ) × (e' : A) × (place x ≡ from + 1 + k) × (slice_get es k ≡ Some e') × (pick e' ≡ Some (value x))
      by (zero, e', p, g, v) = let same : e ≡ e' = cc in let clash : pick e' ≡ None = ap pick (sym same) ∙ is in cc
      by (suc k, e', p, g, v) = (k, e', omega (arith, p), g, v)

  -- the first is picked: it is the first that is listed
  module _ (e : A) (es : List A) (from : ℕ) (d : D) (is : pick e ≡ Some d) (y : R) (rs : List R) (one : Rising (y ∷ rs)) (two : Picked (e ∷ es) from (y ∷ rs)) (three : Whole (e ∷ es) from (y ∷ rs)) where
    least : from ≤ place y
    least = by (two 0 y refl)
      where
        by : (k : ℕ) × (e' : A) × (place y ≡ from + k) × (slice_get (e ∷ es) k ≡ Some e') × (pick e' ≡ Some (value y)) → from ≤ place y
        by (k, e', p, g, v) = omega (arith, p)

    first_there : place y ≡ from
    first_there = by (three 0 e d refl is)
      where
        by : (a : ℕ) × (x : R) × (slice_get (y ∷ rs) a ≡ Some x) × (place x ≡ from + 0) → place y ≡ from
        by (zero, x, s, p) = let same : y ≡ x = cc in ap place same ∙ omega (arith, p)
        by (suc a, x, s, p) = let later : place y < place x = one 0 (suc a) y x (omega arith) refl s in absurd (omega (arith, later, p, least))

    first_value : d ≡ value y
    first_value = by (two 0 y refl)
      where
        by : (k : ℕ) × (e' : A) × (place y ≡ from + k) × (slice_get (e ∷ es) k ≡ Some e') × (pick e' ≡ Some (value y)) → d ≡ value y
        by (zero, e', p, g, v) = let same : e ≡ e' = cc in let both : Some d ≡ Some (value y) = sym is ∙ ap pick same ∙ v in cc
        by (suc k, e', p, g, v) = absurd (omega (arith, p, first_there))

    rest_rising : Rising rs
    rest_rising a b x z less s t = one (suc a) (suc b) x z (omega (arith, less)) s t

    rest_picked : Picked es (from + 1) rs
    rest_picked a x s = by (two (suc a) x s)
      where
        by : (k : ℕ) × (e' : A) × (place x ≡ from + k) × (slice_get (e ∷ es) k ≡ Some e') × (pick e' ≡ Some (value x)) → (k : ℕ) × (e' : A) × (place x ≡ from + 1 + k) × (slice_get es k ≡ Some e') × (pick e' ≡ Some (value x))
        by (zero, e', p, g, v) = let later : place y < place x = one 0 (suc a) y x (omega arith) refl s in absurd (omega (arith, later, p, first_there))
        by (suc k, e', p, g, v) = (k, e', omega (arith, p), g, v)

    rest_whole : Whole es (from + 1) rs
    rest_whole k e' d' g v = by (three (suc k) e' d' g v)
      where
        by : (a : ℕ) × (x : R) × (slice_get (y ∷ rs) a ≡ Some x) × (place x ≡ from + suc k) → (a : ℕ) × (x : R) × (slice_get rs a ≡ Some x) × (place x ≡ from + 1 + k)
        by (zero, x, s, p) = let same : y ≡ x = cc in let there : place y ≡ from + suc k = ap place same ∙ p in absurd (omega (arith, there, first_there))
        by (suc a, x, s, p) = (a, x, s, omega (arith, p))

  nothing_there : (from : ℕ) (x : R) (rs : List R) → Picked [] from (x ∷ rs) → ⊥
  nothing_there from x rs two = by (two 0 x refl)
    where
      by : (k : ℕ) × (e : A) × (place x ≡ from + k) × (slice_get [] k ≡ Some e) × (pick e ≡ Some (value x)) → ⊥
      by (k, e, p, g, v) = cc

  must_be_there : (e : A) (es : List A) (from : ℕ) (d : D) → pick e ≡ Some d → Whole (e ∷ es) from [] → ⊥
  must_be_there e es from d is three = by (three 0 e d refl is)
    where
      by : (a : ℕ) × (x : R) × (slice_get [] a ≡ Some x) × (place x ≡ from + 0) → ⊥
      by (a, x, s, p) = cc

  skip_whole : (e : A) (es : List A) (from : ℕ) (rs : List R) → Whole (e ∷ es) from rs → Whole es (from + 1) rs
  skip_whole e es from rs three k e' d' g v = by (three (suc k) e' d' g v)
    where
      by : (a : ℕ) × (x : R) × (slice_get rs a ≡ Some x) × (place x ≡ from + suc k) → (a : ℕ) × (x : R) × (slice_get rs a ≡ Some x) × (place x ≡ from + 1 + k)
      by (a, x, s, p) = (a, x, s, omega (arith, p))

  -- by whether the first is picked, where the rest is done
  module _ (e : A) (es : List A) (from : ℕ) (deeper : (rs : List R) → Rising rs → Picked es (from + 1) rs → Whole es (from + 1) rs → Goal es rs) where
    with_first : (d : D) → pick e ≡ Some d → (rs : List R) → Rising rs → Picked (e ∷ es) from rs → Whole (e ∷ es) from rs → Goal (e ∷ es) rs
    with_first d is [] one two three = absurd (must_be_there e es from d is three)
    with_first d is (y ∷ rs) one two three =
        taken e es d is
        ∙ ap (λ v. v ∷ filter_map pick es) (first_value e es from d is y rs one two three)
        ∙ ap (λ vs. value y ∷ vs) (deeper rs (rest_rising e es from d is y rs one two three) (rest_picked e es from d is y rs one two three) (rest_whole e es from d is y rs one two three))

    by_first : (o : Option D) → pick e ≡ o → (rs : List R) → Rising rs → Picked (e ∷ es) from rs → Whole (e ∷ es) from rs → Goal (e ∷ es) rs
    by_first None is rs one two three = skipped e es is ∙ deeper rs one (skip_picked e es from rs is two) (skip_whole e es from rs three)
    by_first (Some d) is rs one two three = with_first d is rs one two three

  pub all_picked : (es : List A) (from : ℕ) (rs : List R) → Rising rs → Picked es from rs → Whole es from rs → Goal es rs
  all_picked [] from [] one two three = refl
  all_picked [] from (x ∷ rs) one two three = absurd (nothing_there from x rs two)
  all_picked (e ∷ es) from rs one two three = by_first e es from (λ rs' a b c. all_picked es (from + 1) rs' a b c) (pick e) refl rs one two three

-- ---- a range of a list

in_front : {A : Type 0} (xs : List A) (n a : ℕ) (x : A) → slice_get (take n xs) a ≡ Some x → (a < n) × (slice_get xs a ≡ Some x)
in_front [] zero a x e = cc
in_front [] (suc n) a x e = cc
in_front (y ∷ xs) zero a x e = cc
in_front (y ∷ xs) (suc n) zero x e = (omega arith, e)
in_front (y ∷ xs) (suc n) (suc a) x e = let rest = in_front xs n a x e in (omega (arith, rest.0), rest.1)

of_front : {A : Type 0} (xs : List A) (n a : ℕ) (x : A) → slice_get xs a ≡ Some x → a < n → slice_get (take n xs) a ≡ Some x
of_front [] n a x e less = cc
of_front (y ∷ xs) zero a x e less = absurd (omega (arith, less))
of_front (y ∷ xs) (suc n) zero x e less = e
of_front (y ∷ xs) (suc n) (suc a) x e less = of_front xs n a x e (omega (arith, less))

dropped : {A : Type 0} (xs : List A) (from a : ℕ) → slice_get (drop from xs) a ≡ slice_get xs (from + a)
dropped xs zero a = let e : a ≡ 0 + a = omega arith in ap (slice_get xs) e
dropped [] (suc from) a = refl
dropped (y ∷ xs) (suc from) a = let e : suc (from + a) ≡ suc from + a = omega arith in dropped xs from a ∙ ap (slice_get (y ∷ xs)) e

pub in_range : {A : Type 0} (xs : List A) (from n a : ℕ) (x : A) → slice_get (take n (drop from xs)) a ≡ Some x → (a < n) × (slice_get xs (from + a) ≡ Some x)
in_range xs from n a x e = let both = in_front (drop from xs) n a x e in (both.0, sym (dropped xs from a) ∙ both.1)

pub of_range : {A : Type 0} (xs : List A) (from n a : ℕ) (x : A) → slice_get xs (from + a) ≡ Some x → a < n → slice_get (take n (drop from xs)) a ≡ Some x
of_range xs from n a x e less = of_front (drop from xs) n a x (dropped xs from a ∙ e) less

-- ---- a search among numbers

abbrev pub Search : (ℕ → Bool) → ℕ → ℕ → Type 0
Search test from n = ((i : ℕ) × (from ≤ i) × (i < from + n) × (test i ≡ true)) ⊎ ((i : ℕ) → from ≤ i → i < from + n → test i ≡ false)

pub found_or_not : (test : ℕ → Bool) (from n : ℕ) → Search test from n
found_or_not test from zero = inr (λ i low high. absurd (omega (arith, low, high)))
found_or_not test from (suc n) = by (test (from + n)) refl (found_or_not test from n)
  where
    by : (b : Bool) → test (from + n) ≡ b → Search test from n → Search test from (suc n)
    by true is rest = inl (from + n, omega arith, omega arith, is)
    by false is (inl (i, low, high, t)) = inl (i, low, omega (arith, high), t)
    by false is (inr none) = inr (λ i low high. elim (cases_lt i (from + n)) [ inl less ↦ none i low less | inr most ↦ let same : i ≡ from + n = omega (arith, high, most) in ap test same ∙ is ])
