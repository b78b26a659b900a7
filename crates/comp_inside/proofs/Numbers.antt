-- Numbers of resources, all later by as much.
use Rattle.std.proofs.Common.{◌≡◌, ℕ, zero, suc, ◌+◌, ◌<◌, ◌||◌, nat_eq, cond, not, List, [], ◌∷◌, ◌++◌, map, length, Bool, true, false, refl, ◌∙◌, ap, arith}
use Rattle.std.specs.Prelude.{slice_get}
use Rattle.std.specs.List.{filter}
use Rattle.std.specs.Option.{option_map}
use Rattle.std.proofs.Math.Path.{ap₂}
use Rattle.std.proofs.lemmas.Bool.{eqb-true, eqb-false}
use Rattle.std.proofs.lemmas.List.{length-map}
use Rattle.comp_types.specs.Substitution.{partner_in}
use Rattle.comp_types.specs.GivenResources.{is_among, without, distinct, numbered}
use Rattle.comp_inside.specs.Later.{later, pair_later}

-- what stands at an index, where more stands after
pub got_within : {A B : Type 0} → (f : A → B) (xs : List A) (ys : List B) (i : ℕ) → i < length xs → slice_get (map f xs ++ ys) i ≡ option_map f (slice_get xs i)
got_within f [] ys i lt = absurd (omega (arith, lt))
got_within f (x ∷ xs) ys zero lt = refl
got_within f (x ∷ xs) ys (suc i) lt = got_within f xs ys i (omega (arith, lt))

module _ (k : ℕ) where
  pub once_later : (a b : ℕ) → k + a ≡ k + b → a ≡ b
  once_later a b e = omega (arith, e)

  pub test_later : (a b : ℕ) → nat_eq (k + a) (k + b) ≡ nat_eq a b
  test_later a b = at (nat_eq a b) refl (nat_eq (k + a) (k + b)) refl
    where
      at : (x : Bool) → nat_eq a b ≡ x → (y : Bool) → nat_eq (k + a) (k + b) ≡ y → y ≡ x
      at true is true is' = refl
      at false is false is' = refl
      at true is false is' = absurd (eqb-false (k + a) (k + b) is' (ap (λ z. k + z) (eqb-true a b is)))
      at false is true is' = absurd (eqb-false a b is (once_later a b (eqb-true (k + a) (k + b) is')))

  chosen_later : (b : Bool) (m n n' : ℕ) → n' ≡ k + n → cond b (k + m) n' ≡ k + cond b m n
  chosen_later true m n n' e = refl
  chosen_later false m n n' e = e

  pub partner_later : (pairs : List (ℕ × ℕ)) (r : ℕ) → partner_in (map (pair_later k) pairs) (k + r) ≡ k + partner_in pairs r
  partner_later [] r = refl
  partner_later (p ∷ pairs) r =
      ap (λ b. cond b (k + p.1) (partner_in (map (pair_later k) pairs) (k + r))) (test_later p.0 r)
      ∙ chosen_later (nat_eq p.0 r) p.1 (partner_in pairs r) (partner_in (map (pair_later k) pairs) (k + r)) (partner_later pairs r)

  among_later : (own : List ℕ) (r : ℕ) → is_among (map (later k) own) (k + r) ≡ is_among own r
  among_later [] r = refl
  among_later (o ∷ own) r = ap₂ (λ a b. a || b) (test_later o r) (among_later own r)

  kept_later : (b : Bool) (r : ℕ) (xs ys : List ℕ) → xs ≡ map (later k) ys → cond b ((k + r) ∷ xs) xs ≡ map (later k) (cond b (r ∷ ys) ys)
  kept_later true r xs ys e = ap (λ z. (k + r) ∷ z) e
  kept_later false r xs ys e = e

  filter_later : (p q : ℕ → Bool) → ((r : ℕ) → p (k + r) ≡ q r) → (rs : List ℕ) → filter p (map (later k) rs) ≡ map (later k) (filter q rs)
  filter_later p q same [] = refl
  filter_later p q same (r ∷ rs) =
      ap (λ b. cond b ((k + r) ∷ filter p (map (later k) rs)) (filter p (map (later k) rs))) (same r)
      ∙ kept_later (q r) r (filter p (map (later k) rs)) (filter q rs) (filter_later p q same rs)

  pub without_later : (own rs : List ℕ) → without (map (later k) own) (map (later k) rs) ≡ map (later k) (without own rs)
  without_later own rs = filter_later (λ r. not (is_among (map (later k) own) r)) (λ r. not (is_among own r)) (λ r. ap not (among_later own r)) rs

  pub distinct_later : (rs : List ℕ) → distinct (map (later k) rs) ≡ map (later k) (distinct rs)
  distinct_later [] = refl
  distinct_later (r ∷ rs) =
      ap (λ xs. (k + r) ∷ filter (λ x. not (nat_eq x (k + r))) xs) (distinct_later rs)
      ∙ ap (λ xs. (k + r) ∷ xs) (filter_later (λ x. not (nat_eq x (k + r))) (λ x. not (nat_eq x r)) (λ x. ap not (test_later x r)) (distinct rs))

  pub next_later : (n : ℕ) → k + n + 1 ≡ k + (n + 1)
  next_later n = omega arith

  pub numbered_later : (rs : List ℕ) (n : ℕ) → numbered (map (later k) rs) (k + n) ≡ map (pair_later k) (numbered rs n)
  numbered_later [] n = refl
  numbered_later (r ∷ rs) n =
      ap (λ m. (k + r, k + n) ∷ numbered (map (later k) rs) m) (next_later n) ∙ ap (λ ps. (k + r, k + n) ∷ ps) (numbered_later rs (n + 1))

  pub lengths_later : (n : ℕ) (xs : List (ℕ × ℕ)) → k + n + length (map (pair_later k) xs) ≡ k + (n + length xs)
  lengths_later n xs = ap (λ l. k + n + l) (length-map xs (pair_later k)) ∙ (let q : k + n + length xs ≡ k + (n + length xs) = omega arith in q)
