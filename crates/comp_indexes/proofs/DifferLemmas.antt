-- Names of which none was met so far, and none is met again.
use Rattle.std.proofs.Common.{◌≡◌, ◌∙◌, ap, sym, refl, List, [], ◌∷◌, Bool, true, false, not, ◌&&◌}
use Rattle.std.specs.Prelude.{◌||◌}
use Rattle.std.specs.List.{list_all, list_any}
use Rattle.comp_types.specs.Rules.{all_differ}

-- they differ, and none of them was met
abbrev pub are_new : {A : Type 0} (same : A → A → Bool) (met : A → Bool) → List A → Bool
are_new same met names = all_differ same names && list_all (λ q. not (met q)) names

and_true : (b : Bool) → b ≡ (b && true)
and_true true = refl
and_true false = refl

and_false : (b : Bool) → (b && false) ≡ false
and_false true = refl
and_false false = refl

none_met : {A : Type 0} (met : A → Bool) → ((q : A) → met q ≡ false) → (names : List A) → list_all (λ q. not (met q)) names ≡ true
none_met met none [] = refl
none_met met none (x ∷ xs) = ap (λ b. not b && list_all (λ q. not (met q)) xs) (none x) ∙ none_met met none xs

pub starts_new : {A : Type 0} (same : A → A → Bool) (met : A → Bool) → ((q : A) → met q ≡ false) → (names : List A) → all_differ same names ≡ are_new same met names
starts_new same met none names = and_true (all_differ same names) ∙ ap (λ b. all_differ same names && b) (sym (none_met met none names))

-- one more was met
swap : (p q r s : Bool) → ((not (p || q)) && (r && s)) ≡ ((not p && r) && (not q && s))
swap true q true s = refl
swap true q false s = refl
swap false true true s = refl
swap false true false s = refl
swap false false r s = refl

met_more : {A : Type 0} (same : A → A → Bool) (met more : A → Bool) (x : A) → ((q : A) → more q ≡ (same x q || met q)) → (xs : List A)
    → list_all (λ q. not (more q)) xs ≡ (not (list_any (same x) xs) && list_all (λ q. not (met q)) xs)
met_more same met more x grows [] = refl
met_more same met more x grows (y ∷ ys) =
    ap (λ b. not b && list_all (λ q. not (more q)) ys) (grows y)
    ∙ (ap (λ b. not (same x y || met y) && b) (met_more same met more x grows ys)
    ∙ (swap (same x y) (met y) (not (list_any (same x) ys)) (list_all (λ q. not (met q)) ys)
    ∙ ap (λ b. b && (not (met y) && list_all (λ q. not (met q)) ys)) (sym (not_or (same x y) (list_any (same x) ys)))))
  where
    not_or : (p q : Bool) → not (p || q) ≡ (not p && not q)
    not_or true q = refl
    not_or false q = refl

turned : (a b c : Bool) → ((not a && b) && c) ≡ (b && (not a && c))
turned true true c = refl
turned true false c = refl
turned false true c = refl
turned false false c = refl

-- the first name is new
pub goes_on : {A : Type 0} (same : A → A → Bool) (met more : A → Bool) (x : A) (xs : List A)
    → ((q : A) → more q ≡ (same x q || met q)) → met x ≡ false → are_new same met (x ∷ xs) ≡ are_new same more xs
goes_on same met more x xs grows new =
    ap (λ b. (not (list_any (same x) xs) && all_differ same xs) && (not b && list_all (λ q. not (met q)) xs)) new
    ∙ (turned (list_any (same x) xs) (all_differ same xs) (list_all (λ q. not (met q)) xs)
    ∙ ap (λ b. all_differ same xs && b) (sym (met_more same met more x grows xs)))

-- it was met
pub ends_here : {A : Type 0} (same : A → A → Bool) (met : A → Bool) (x : A) (xs : List A) → met x ≡ true → are_new same met (x ∷ xs) ≡ false
ends_here same met x xs old =
    ap (λ b. (not (list_any (same x) xs) && all_differ same xs) && (not b && list_all (λ q. not (met q)) xs)) old
    ∙ and_false (not (list_any (same x) xs) && all_differ same xs)

pub was_new : (met new : Bool) → new ≡ not met → new ≡ true → met ≡ false
was_new true new e f = let never : false ≡ true = sym e ∙ f in cc
was_new false new e f = refl
