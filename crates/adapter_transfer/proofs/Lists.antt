-- Lists, and tests of numbers.
use Rattle.std.proofs.Common.{◌≡◌, ◌≢◌, ℕ, zero, suc, ◌+◌, ◌<◌, ◌≤◌, ◌==◌, List, [], ◌∷◌, ◌++◌, Bool, true, false, ◌&&◌, ◌||◌, Some, All, length, refl, sym, subst, arith, length-append}
use Rattle.std.specs.Prelude.{nat_lt, nat_le, slice_get}
use Rattle.std.specs.List.{list_any}
use Rattle.std.specs.Str.{bytes_eq}
use Rattle.std.proofs.lemmas.Bool.Decides.{nat_tests}
use Rattle.std.proofs.lemmas.List.Elements.{All-head, All-tail}
use Rattle.std.proofs.lemmas.Slice.Eq.{bytes_eq-Decides}
use Rattle.core_validate.specs.Gather.{gather}
use Rattle.adapter_transfer.specs.ModuleValid.{AreDistinct}

pub is_less : (i n : ℕ) → i < n → nat_lt i n ≡ true
is_less i n lt = grind (arith, nat_tests)

pub is_most : (i n : ℕ) → i ≤ n → nat_le i n ≡ true
is_most i n le = grind (arith, nat_tests)

pub is_zero : (n : ℕ) → n ≡ 0 → (n == 0) ≡ true
is_zero zero e = refl
is_zero (suc n) e = absurd (omega (arith, e))

pub both_true : (a b : Bool) → a ≡ true → b ≡ true → (a && b) ≡ true
both_true true b p q = q
both_true false b p q = p

both_false : (a b : Bool) → a ≡ false → b ≡ false → (a || b) ≡ false
both_false true b p q = p
both_false false b p q = q

pub all_at : {A : Type 0} (P : A → Type 0) → (xs : List A) (i : ℕ) (x : A) → All P xs → slice_get xs i ≡ Some x → P x
all_at P [] i x h e = absurd (cc)
all_at P (y ∷ ys) zero x h e =
    let same : y ≡ x = cc in
    subst P same (All-head P y ys h)
all_at P (y ∷ ys) (suc i) x h e = all_at P ys i x (All-tail P y ys h) e

pub all_middle : {A : Type 0} (P : A → Type 0) → (before : List A) (x : A) (rest : List A) → All P (before ++ x ∷ rest) → P x
all_middle P [] x rest h = All-head P x rest h
all_middle P (y ∷ before) x rest h = all_middle P before x rest (All-tail P y (before ++ x ∷ rest) h)

pub gather_count : {A B : Type 0} (f : A → List B) → (xs : List A) (x : A) → length (gather f (xs ++ x ∷ [])) ≡ length (gather f xs) + length (f x)
gather_count f [] x = let e = length-append (f x) [] in omega (arith, e)
gather_count f (y ∷ xs) x =
    let a = length-append (f y) (gather f (xs ++ x ∷ [])) in
    let b = length-append (f y) (gather f xs) in
    omega (arith, a, b, gather_count f xs x)

differs : (n m : List ℕ) → m ≢ n → bytes_eq n m ≡ false
differs n m apart = go (bytes_eq n m) refl
  where
    go : (b : Bool) → bytes_eq n m ≡ b → b ≡ false
    go true is = absurd (apart (sym ((bytes_eq-Decides n m).0 is)))
    go false is = refl

-- a name is none of those before it
pub is_new : (before : List (List ℕ)) (n : List ℕ) (rest : List (List ℕ)) → AreDistinct (before ++ n ∷ rest) → list_any (bytes_eq n) before ≡ false
is_new [] n rest h = refl
is_new (m ∷ before) n rest (fresh, more) =
    both_false (bytes_eq n m) (list_any (bytes_eq n) before) (differs n m (all_middle (λ x. m ≢ x) before n rest fresh)) (is_new before n rest more)
