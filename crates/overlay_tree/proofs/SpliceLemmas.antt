-- Parts of a list of which a part was replaced.
use Rattle.std.proofs.Common.{◌≡◌, ℕ, zero, suc, ◌+◌, ◌-◌, ◌≤◌, ◌<◌, refl, sym, ap, ◌∙◌, List, [], ◌∷◌, ◌++◌, length, take, drop, arith}
use Rattle.std.specs.List.{splice}
use Rattle.std.proofs.lemmas.List.{drop-drop, take-take, take-append-drop, length-take-le, length-drop, drop-take}

module _ {A : Type 0} where
  -- in front of a place
  pub front : (xs zs : List A) (i k : ℕ) → k ≤ i → i ≤ length xs → take k (take i xs ++ zs) ≡ take k xs
  front xs zs i zero h l = refl
  front [] zs i (suc k) h l = absurd (omega arith)
  front (x ∷ xs) zs zero (suc k) h l = absurd (omega arith)
  front (x ∷ xs) zs (suc i) (suc k) h l = ap (λ ys. x ∷ ys) (front xs zs i k (omega arith) (omega arith))

  -- after what was taken
  pub seam : (xs zs : List A) (i : ℕ) → i ≤ length xs → drop i (take i xs ++ zs) ≡ zs
  seam xs zs zero l = refl
  seam [] zs (suc i) l = absurd (omega arith)
  seam (x ∷ xs) zs (suc i) l = seam xs zs i (omega arith)

  pub drop_all : (ys zs : List A) → drop (length ys) (ys ++ zs) ≡ zs
  drop_all [] zs = refl
  drop_all (y ∷ ys) zs = drop_all ys zs

  pub take_all : (ys zs : List A) → take (length ys) (ys ++ zs) ≡ ys
  take_all [] zs = refl
  take_all (y ∷ ys) zs = ap (λ r. y ∷ r) (take_all ys zs)

  -- a replaced part leaves what is in front of it
  pub splice_front : (xs ys : List A) (i j k : ℕ) → k ≤ i → i ≤ length xs → take k (splice xs i j ys) ≡ take k xs
  splice_front xs ys i j k h l = front xs (ys ++ drop j xs) i k h l

  -- and what is after it
  pub splice_behind : (xs ys : List A) (i j n : ℕ) → i ≤ length xs → j ≡ i + length ys → j ≤ n → drop n (splice xs i j ys) ≡ drop n xs
  splice_behind xs ys i j n l e h =
      let at : n ≡ j + (n - j) = omega (arith, h) in
      let step : drop j (splice xs i j ys) ≡ drop j xs =
      (ap (λ m. drop m (splice xs i j ys)) e ∙ sym (drop-drop (length ys) i (splice xs i j ys)) ∙ ap (drop (length ys)) (seam xs (ys ++ drop j xs) i l) ∙ drop_all ys (drop j xs)) in
      ap (λ m. drop m (splice xs i j ys)) at ∙ sym (drop-drop (n - j) j (splice xs i j ys)) ∙ ap (drop (n - j)) step ∙ drop-drop (n - j) j xs ∙ ap (λ m. drop m xs) (sym at)

  -- what stands from the place on
  pub splice_from : (xs ys : List A) (i j : ℕ) → i ≤ length xs → drop i (splice xs i j ys) ≡ ys ++ drop j xs
  splice_from xs ys i j l = seam xs (ys ++ drop j xs) i l

  -- lists that begin alike, also begin alike for less
  pub less_alike : (xs ys : List A) (k n : ℕ) → k ≤ n → take n xs ≡ take n ys → take k xs ≡ take k ys
  less_alike xs ys k n h e = sym (take-take k n xs h) ∙ ap (take k) e ∙ take-take k n ys h

  -- and after a place
  pub later_alike : (xs ys : List A) (k m : ℕ) → take (k + m) xs ≡ take (k + m) ys → take m (drop k xs) ≡ take m (drop k ys)
  later_alike xs ys k m e = sym (drop-take k m xs) ∙ ap (drop k) e ∙ drop-take k m ys
