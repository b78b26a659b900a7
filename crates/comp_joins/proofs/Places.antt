-- Where the instances of the two parts stand in the whole: that many of the first after the whole's own, and then those of the second.
-- Numbers after these stand for nothing, and are kept apart.
use Rattle.std.proofs.Common.{◌≡◌, ◌⊎◌, inl, inr, ℕ, ◌+◌, ◌≤◌, ◌<◌, nat_lt, cond, Bool, true, false, refl, ap, subst, arith}
use Rattle.std.proofs.lemmas.Bool.{ltb-true, ltb-false, lt-ltb}

abbrev place_of : ℕ → ℕ → ℕ → ℕ → ℕ
place_of most near far k = cond (nat_lt k most) (near + k) far

abbrev Stands : ℕ → ℕ → ℕ → ℕ → ℕ → Type 0
Stands most near far k at = ((k < most) × (at ≡ near + k)) ⊎ ((most ≤ k) × (at ≡ far))

stands : (most near far k : ℕ) → Stands most near far k (place_of most near far k)
stands most near far k = go (nat_lt k most) refl
  where
    go : (b : Bool) → nat_lt k most ≡ b → Stands most near far k (cond b (near + k) far)
    go true e = inl (ltb-true k most e, refl)
    go false e = inr (ltb-false k most e, refl)

here : (most near far k : ℕ) → k < most → place_of most near far k ≡ near + k
here most near far k less = ap (λ b. cond b (near + k) far) (lt-ltb k most less)

module _ (first second : ℕ) where
  abbrev pub left : ℕ → ℕ
  left k = place_of first 1 (1 + first + second + (k + k)) k

  abbrev pub right : ℕ → ℕ
  right k = place_of second (1 + first) (1 + first + second + (k + k + 1)) k

  pub left_here : (k : ℕ) → k < first → left k ≡ 1 + k
  left_here k less = here first 1 (1 + first + second + (k + k)) k less

  pub right_here : (k : ℕ) → k < second → right k ≡ 1 + first + k
  right_here k less = here second (1 + first) (1 + first + second + (k + k + 1)) k less

  abbrev OnLeft : ℕ → ℕ → Type 0
  OnLeft k at = Stands first 1 (1 + first + second + (k + k)) k at

  abbrev OnRight : ℕ → ℕ → Type 0
  OnRight k at = Stands second (1 + first) (1 + first + second + (k + k + 1)) k at

  lefts_once : (j k at : ℕ) → OnLeft j at → OnLeft k at → j ≡ k
  lefts_once j k at (inl a) (inl b) = let x : at ≡ 1 + j = a.1 in let y : at ≡ 1 + k = b.1 in omega (arith, x, y)
  lefts_once j k at (inl a) (inr b) = let l : j < first = a.0 in let x : at ≡ 1 + j = a.1 in let y : at ≡ 1 + first + second + (k + k) = b.1 in absurd (omega (arith, l, x, y))
  lefts_once j k at (inr a) (inl b) = let l : k < first = b.0 in let x : at ≡ 1 + first + second + (j + j) = a.1 in let y : at ≡ 1 + k = b.1 in absurd (omega (arith, l, x, y))
  lefts_once j k at (inr a) (inr b) = let x : at ≡ 1 + first + second + (j + j) = a.1 in let y : at ≡ 1 + first + second + (k + k) = b.1 in omega (arith, x, y)

  rights_once : (j k at : ℕ) → OnRight j at → OnRight k at → j ≡ k
  rights_once j k at (inl a) (inl b) = let x : at ≡ 1 + first + j = a.1 in let y : at ≡ 1 + first + k = b.1 in omega (arith, x, y)
  rights_once j k at (inl a) (inr b) = let l : j < second = a.0 in let x : at ≡ 1 + first + j = a.1 in let y : at ≡ 1 + first + second + (k + k + 1) = b.1 in absurd (omega (arith, l, x, y))
  rights_once j k at (inr a) (inl b) = let l : k < second = b.0 in let x : at ≡ 1 + first + second + (j + j + 1) = a.1 in let y : at ≡ 1 + first + k = b.1 in absurd (omega (arith, l, x, y))
  rights_once j k at (inr a) (inr b) = let x : at ≡ 1 + first + second + (j + j + 1) = a.1 in let y : at ≡ 1 + first + second + (k + k + 1) = b.1 in omega (arith, x, y)

  kept_apart : (j k at : ℕ) → OnLeft j at → OnRight k at → ⊥
  kept_apart j k at (inl a) (inl b) = let l : j < first = a.0 in let x : at ≡ 1 + j = a.1 in let y : at ≡ 1 + first + k = b.1 in omega (arith, l, x, y)
  kept_apart j k at (inl a) (inr b) = let l : j < first = a.0 in let x : at ≡ 1 + j = a.1 in let y : at ≡ 1 + first + second + (k + k + 1) = b.1 in omega (arith, l, x, y)
  kept_apart j k at (inr a) (inl b) = let l : k < second = b.0 in let x : at ≡ 1 + first + second + (j + j) = a.1 in let y : at ≡ 1 + first + k = b.1 in omega (arith, l, x, y)
  kept_apart j k at (inr a) (inr b) = let x : at ≡ 1 + first + second + (j + j) = a.1 in let y : at ≡ 1 + first + second + (k + k + 1) = b.1 in omega (arith, x, y)

  on_left : (k : ℕ) → OnLeft k (left k)
  on_left k = stands first 1 (1 + first + second + (k + k)) k

  on_right : (k : ℕ) → OnRight k (right k)
  on_right k = stands second (1 + first) (1 + first + second + (k + k + 1)) k

  pub left_once : (j k : ℕ) → left j ≡ left k → j ≡ k
  left_once j k same = lefts_once j k (left k) (subst (OnLeft j) same (on_left j)) (on_left k)

  pub right_once : (j k : ℕ) → right j ≡ right k → j ≡ k
  right_once j k same = rights_once j k (right k) (subst (OnRight j) same (on_right j)) (on_right k)

  pub apart : (j k : ℕ) → left j ≡ right k → ⊥
  apart j k same = kept_apart j k (right k) (subst (OnLeft j) same (on_left j)) (on_right k)
