-- Two formats read one after the other, and where two texts part.
use Rattle.std.proofs.Common.{◌≡◌, ℕ, Bool, true, false, cond, List, [], ◌∷◌, ◌++◌, Result, Ok, Err, ◌⊎◌, refl, sym, ap, ◌∙◌, inl, inr}
use Rattle.wasm_format.specs.declared.stop.Stop.{Stop}
use Rattle.wasm_format.specs.declared.stop.Stop.TheVariants.{Malformed, Unsupported}
use Rattle.wasm_format.specs.Format.{◌>>=◌}

abbrev pub err_of : {A : Type 0} → Stop → Result A Stop
err_of d = Err d

pub same_err : {A : Type 0} (c d : Stop) → err_of {A = A} c ≡ err_of d → c ≡ d
same_err c d e = cc

pub ok_is_no_err : {A : Type 0} (x : A) (d : Stop) → Ok x ≡ err_of d → ⊥
ok_is_no_err x d e = cc

-- the step of two that failed
pub bind_err : {A B : Type 0} (r : Result A Stop) (f : A → Result B Stop) (d : Stop) → (r >>= f) ≡ Err d → (r ≡ Err d) ⊎ ((x : A) × (r ≡ Ok x) × (f x ≡ Err d))
bind_err (Ok x) f d e = inr (x, refl, e)
bind_err {A} {B} (Err c) f d e = inl (ap (λ (y : Stop). Err y) (same_err {A = B} c d e))

-- of two steps of which the second never fails
pub first_err : {A B : Type 0} (r : Result A Stop) (f : A → B) (d : Stop) → (r >>= λ a. Ok (f a)) ≡ Err d → r ≡ Err d
first_err {A} {B} (Ok x) f d e = absurd (ok_is_no_err (f x) d e)
first_err {A} {B} (Err c) f d e = ap (λ (y : Stop). Err y) (same_err {A = B} c d e)

pub heads : (a b : ℕ) (x y : List ℕ) → a ∷ x ≡ b ∷ y → (a ≡ b) × (x ≡ y)
heads a b x y e = (cc, cc)

-- two texts that are one, taken apart at two places
pub overlap : (t u x y : List ℕ) → t ++ u ≡ x ++ y → ((z : List ℕ) × (x ≡ t ++ z) × (u ≡ z ++ y)) ⊎ ((z : List ℕ) × (t ≡ x ++ z) × (y ≡ z ++ u))
overlap [] u x y e = inl (x, refl, e)
overlap (a ∷ t) u [] y e = inr (a ∷ t, refl, sym e)
overlap (a ∷ t) u (b ∷ x) y e =
    let h = heads a b (t ++ u) (x ++ y) e in
    elim (overlap t u x y h.1) [
      | inl w ↦ inl (w.0, ap (λ (k : ℕ). k ∷ x) (sym h.0) ∙ ap (λ (z : List ℕ). a ∷ z) w.1, w.2)
      | inr w ↦ inr (w.0, ap (λ (k : ℕ). k ∷ t) h.0 ∙ ap (λ (z : List ℕ). b ∷ z) w.1, w.2)
    ]

-- one text leads both
pub same_rest : (t u v : List ℕ) → t ++ u ≡ t ++ v → u ≡ v
same_rest [] u v e = e
same_rest (a ∷ t) u v e = same_rest t u v (heads a a (t ++ u) (t ++ v) e).1

pub not_empty : (front : List ℕ) (byte : ℕ) (other : List ℕ) → front ++ byte ∷ other ≡ [] → ⊥
not_empty [] byte other e = cc
not_empty (b ∷ front) byte other e = cc

pub not_malformed : {A : Type 0} (at byte : ℕ) → err_of {A = A} Malformed ≡ err_of (Unsupported at byte) → ⊥
not_malformed at byte e = cc

-- a test that fails as malformed
pub test_never : {A : Type 0} (b : Bool) (x : A) (at byte : ℕ) → cond b (Ok x) (Err Malformed) ≡ err_of (Unsupported at byte) → ⊥
test_never true x at byte e = ok_is_no_err x (Unsupported at byte) e
test_never {A} false x at byte e = not_malformed {A = A} at byte e

pub cond_err : {A : Type 0} (b : Bool) (x y : Result A Stop) (d : Stop) → cond b x y ≡ Err d → ((b ≡ true) × (x ≡ Err d)) ⊎ ((b ≡ false) × (y ≡ Err d))
cond_err true x y d e = inl (refl, e)
cond_err false x y d e = inr (refl, e)

pub not_both : (b : Bool) → b ≡ true → b ≡ false → ⊥
not_both b e h = cc

pub tag_is : {A : Type 0} (at b a byte : ℕ) → err_of {A = A} (Unsupported at b) ≡ err_of (Unsupported a byte) → (a ≡ at) × (byte ≡ b)
tag_is at b a byte e = (cc, cc)
