-- Pairs in order.
use Rattle.std.proofs.Common.{◌≡◌, ◌<◌, ◌≤◌, refl, sym, ap, ℕ, zero, suc, List, [], ◌∷◌, ◌++◌, length, Option, Some, None, is_some, slice_get, get_or, Bor, arith}
use Rattle.std.specs.Prelude.{option_map, IfSome, nat_lt}
use Rattle.std.proofs.lemmas.Bool.Decides.{nat_tests}
use Rattle.std.proofs.lemmas.Option.{slice_get_past, slice_get_read}
use Rattle.comp_scopes.specs.Found.{Each, EachSome}

pub each_get : {A B : Type 0} (R : A → B → Type 0) (xs : List A) (ys : List B) → Each R xs ys → (i : ℕ) → EachSome R (slice_get xs i) (slice_get ys i)
each_get R [] [] h i = tt
each_get R [] (y ∷ ys) h i = absurd h
each_get R (x ∷ xs) [] h i = absurd h
each_get R (x ∷ xs) (y ∷ ys) h zero = h.0
each_get R (x ∷ xs) (y ∷ ys) h (suc i) = each_get R xs ys h.1 i

pub each_and : {A B : Type 0} (R : A → B → Type 0) (xs : List A) (ys : List B) (x : A) (y : B) → Each R xs ys → R x y → Each R (xs ++ x ∷ []) (ys ++ y ∷ [])
each_and R [] [] x y h r = (r, tt)
each_and R [] (b ∷ ys) x y h r = absurd h
each_and R (a ∷ xs) [] x y h r = absurd h
each_and R (a ∷ xs) (b ∷ ys) x y h r = (h.0, each_and R xs ys x y h.1 r)

pub each_length : {A B : Type 0} (R : A → B → Type 0) (xs : List A) (ys : List B) → Each R xs ys → length xs ≡ length ys
each_length R [] [] h = refl
each_length R [] (y ∷ ys) h = absurd h
each_length R (x ∷ xs) [] h = absurd h
each_length R (x ∷ xs) (y ∷ ys) h = ap suc (each_length R xs ys h.1)

pub none_of : {A B : Type 0} (R : A → B → Type 0) (o : Option A) → EachSome R o None → o ≡ None
none_of R None h = refl
none_of R (Some x) h = absurd h

pub some_of : {A B : Type 0} (R : A → B → Type 0) (o : Option A) (y : B) → EachSome R o (Some y) → (x : A) × (o ≡ Some x) × R x y
some_of R None y h = absurd h
some_of R (Some x) y h = (x, refl, h)

-- what a slice's `get` says of its answer
pub got : {A : Type 0} (r : Option (Bor A)) (xs : List A) (i : ℕ) → is_some r ≡ nat_lt i (length xs) → IfSome r (λ x. x.now ≡ get_or xs i x.now) → option_map (λ x. x.now) r ≡ slice_get xs i
got None xs i a b = let past : length xs ≤ i = grind (arith, nat_tests) in sym (slice_get_past xs i past)
got (Some x) xs i a b = let inside : i < length xs = grind (arith, nat_tests) in sym (slice_get_read xs (length xs) i x.now refl inside b)
