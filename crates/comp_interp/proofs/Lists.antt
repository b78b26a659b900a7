-- Lists with another item at a place, and what is found in lists with one item more.
use Rattle.std.proofs.Common.{◌≡◌, ◌∙◌, ap, sym, refl, ℕ, zero, suc, nat_eq, List, [], ◌∷◌, ◌++◌, length, set, Some, Bool, true, false, slice_get}
use Rattle.std.proofs.lemmas.Bool.{eqb-true, eqb-false}
use Rattle.std.proofs.lemmas.Option.{none-some}

pub cancelled : {A : Type 0} → (xs ys zs : List A) → xs ++ ys ≡ xs ++ zs → ys ≡ zs
cancelled [] ys zs e = e
cancelled (x ∷ xs) ys zs e = let q : xs ++ ys ≡ xs ++ zs = cc in cancelled xs ys zs q

pub set_here : {A : Type 0} → (xs : List A) (k : ℕ) (x y : A) → slice_get xs k ≡ Some x → slice_get (set xs k y) k ≡ Some y
set_here [] k x y e = absurd (cc)
set_here (z ∷ xs) zero x y e = refl
set_here (z ∷ xs) (suc k) x y e = set_here xs k x y e

pub set_there : {A : Type 0} → (xs : List A) (k j : ℕ) (y : A) → (j ≡ k → ⊥) → slice_get (set xs k y) j ≡ slice_get xs j
set_there [] k j y differ = refl
set_there (z ∷ xs) zero zero y differ = absurd (differ refl)
set_there (z ∷ xs) zero (suc j) y differ = refl
set_there (z ∷ xs) (suc k) zero y differ = refl
set_there (z ∷ xs) (suc k) (suc j) y differ = set_there xs k j y (λ e. differ (ap suc e))

pub push_here : {A : Type 0} → (xs : List A) (y : A) → slice_get (xs ++ y ∷ []) (length xs) ≡ Some y
push_here [] y = refl
push_here (x ∷ xs) y = push_here xs y

pub push_there : {A : Type 0} → (xs : List A) (y : A) (n : ℕ) → (n ≡ length xs → ⊥) → slice_get (xs ++ y ∷ []) n ≡ slice_get xs n
push_there [] y zero differ = absurd (differ refl)
push_there [] y (suc n) differ = refl
push_there (x ∷ xs) y zero differ = refl
push_there (x ∷ xs) y (suc n) differ = push_there xs y n (λ e. differ (ap suc e))

-- by whether a number is another one
pub by_number : {P : Type 0} → (j k : ℕ) → (j ≡ k → P) → ((j ≡ k → ⊥) → P) → P
by_number {P} j k same differ = go (nat_eq j k) refl
  where
    go : (b : Bool) → nat_eq j k ≡ b → P
    go true e = same (eqb-true j k e)
    go false e = differ (eqb-false j k e)

pub is_itself : (k : ℕ) → nat_eq k k ≡ true
is_itself k = go (nat_eq k k) refl
  where
    go : (b : Bool) → nat_eq k k ≡ b → b ≡ true
    go true e = refl
    go false e = absurd (eqb-false k k e refl)

pub get_front : {A : Type 0} → (xs ys : List A) (n : ℕ) (x : A) → slice_get xs n ≡ Some x → slice_get (xs ++ ys) n ≡ Some x
get_front [] ys n x e = absurd (cc)
get_front (z ∷ xs) ys zero x e = e
get_front (z ∷ xs) ys (suc n) x e = get_front xs ys n x e

-- lists are equal where each place has the same
pub same_lists : {A : Type 0} → (xs ys : List A) → ((n : ℕ) → slice_get xs n ≡ slice_get ys n) → xs ≡ ys
same_lists [] [] h = refl
same_lists [] (y ∷ ys) h = absurd (none-some y (h 0))
same_lists (x ∷ xs) [] h = absurd (none-some x (sym (h 0)))
same_lists (x ∷ xs) (y ∷ ys) h =
    let first : Some x ≡ Some y = h 0 in
    let same : x ≡ y = cc in
    ap (λ z. z ∷ xs) same ∙ ap (λ zs. y ∷ zs) (same_lists xs ys (λ n. h (suc n)))

pub set_same : {A : Type 0} → (xs : List A) (k : ℕ) (x : A) → slice_get xs k ≡ Some x → set xs k x ≡ xs
set_same [] k x e = refl
set_same (z ∷ xs) zero x e = let same : z ≡ x = cc in ap (λ y. y ∷ xs) (sym same)
set_same (z ∷ xs) (suc k) x e = ap (λ ys. z ∷ ys) (set_same xs k x e)
