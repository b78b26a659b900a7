-- Lists of numbers that begin alike, number by number.
use Rattle.std.proofs.Common.{◌≡◌, ◌-◌, ◌<◌, ◌≤◌, ℕ, suc, refl, sym, ap, ◌∙◌, Bool, false, ◌&&◌, List, [], ◌∷◌, length, take, drop, get_or, arith}
use Rattle.std.specs.Prelude.{◌==◌}
use Rattle.std.specs.List.{flat_map}
use Rattle.wit_types.specs.declared.value.Value.{Value}
use Rattle.wit_types.specs.PlainValue.{plain_value, values_of}
use Rattle.policy_data.specs.Addresses.{bits}
use Rattle.net_policy.specs.Allowed.{same_front, number_in, all_numbers}
use Rattle.net_policy.proofs.FrontLemmas.{same_front_bits, same_front_none, same_front_some, same_front_both_none}

pub none_left : (n w : ℕ) (xs : List ℕ) (vs : List Value) → length xs < 1 → 0 < n → 0 < w → (length vs == 0) ≡ same_front n (flat_map (bits w) xs) (flat_map (bits w) (all_numbers (values_of vs)))
none_left n w [] [] l h k = sym (same_front_both_none n)
none_left n w [] (v ∷ vs) l h k =
    let some : (length (v ∷ vs) == 0) ≡ false = not_zero (length vs) in
    some ∙ sym (same_front_none n w (number_in (plain_value v)) (flat_map (bits w) (all_numbers (values_of vs))) h k)
  where
    not_zero : (m : ℕ) → (suc m == 0) ≡ false
    not_zero m = grind arith
none_left n w (x ∷ xs) vs l h k = absurd (omega (arith, l))

pub some_left : (n w : ℕ) (xs : List ℕ) (vs : List Value) → 1 ≤ length xs → length vs < 1 → 0 < n → 0 < w → false ≡ same_front n (flat_map (bits w) xs) (flat_map (bits w) (all_numbers (values_of vs)))
some_left n w [] vs l m h k = absurd (omega (arith, l))
some_left n w (x ∷ xs) [] l m h k = sym (same_front_some n w x _ h k)
some_left n w (x ∷ xs) (v ∷ vs) l m h k = absurd (omega (arith, m))

pub both_left : (n w : ℕ) (xs : List ℕ) (vs : List Value) (d : ℕ) (e : Value) → 1 ≤ length xs → 1 ≤ length vs →
    same_front n (flat_map (bits w) xs) (flat_map (bits w) (all_numbers (values_of vs))) ≡ (same_front n (bits w (get_or xs 0 d)) (bits w (number_in (plain_value (get_or vs 0 e)))) && same_front (n - w) (flat_map (bits w) (drop 1 xs)) (flat_map (bits w) (all_numbers (values_of (drop 1 vs)))))
both_left n w [] vs d e l m = absurd (omega (arith, l))
both_left n w (x ∷ xs) [] d e l m = absurd (omega (arith, m))
both_left n w (x ∷ xs) (v ∷ vs) d e l m = same_front_bits n w x (number_in (plain_value v)) (flat_map (bits w) xs) (flat_map (bits w) (all_numbers (values_of vs)))

-- what is after the first item
pub behind_first : {A : Type 0} (xs : List A) → take (length xs - 1) (drop 1 xs) ≡ drop 1 xs
behind_first [] = refl
behind_first (x ∷ xs) = ap (λ n. take n xs) (omega arith) ∙ take_whole xs
  where
    take_whole : {A : Type 0} (ys : List A) → take (length ys) ys ≡ ys
    take_whole [] = refl
    take_whole (y ∷ ys) = ap (λ zs. y ∷ zs) (take_whole ys)

-- the bits of the first numbers are alike or not, and then the others decide
pub both_by : (n w m : ℕ) (xs : List ℕ) (vs : List Value) (d : ℕ) (e : Value) (a b : ℕ) (first rest : Bool) → 1 ≤ length xs → 1 ≤ length vs
    → a ≡ get_or xs 0 d → b ≡ number_in (plain_value (get_or vs 0 e)) → m ≡ n - w
    → first ≡ same_front n (bits w a) (bits w b) → rest ≡ same_front m (flat_map (bits w) (take (length xs - 1) (drop 1 xs))) (flat_map (bits w) (all_numbers (values_of (take (length vs - 1) (drop 1 vs)))))
    → (first && rest) ≡ same_front n (flat_map (bits w) xs) (flat_map (bits w) (all_numbers (values_of vs)))
both_by n w m xs vs d e a b first rest l k is_a is_b is_m by_first by_rest =
    rw (both_left n w xs vs d e l k, by_first, by_rest, is_a, is_b, is_m, behind_first xs, behind_first vs) refl

pub not_alike : (n w : ℕ) (xs : List ℕ) (vs : List Value) (d : ℕ) (e : Value) (a b : ℕ) (first : Bool) → 1 ≤ length xs → 1 ≤ length vs
    → a ≡ get_or xs 0 d → b ≡ number_in (plain_value (get_or vs 0 e))
    → first ≡ same_front n (bits w a) (bits w b) → first ≡ false
    → first ≡ same_front n (flat_map (bits w) xs) (flat_map (bits w) (all_numbers (values_of vs)))
not_alike n w xs vs d e a b first l k is_a is_b by_first differ =
    let rest = same_front (n - w) (flat_map (bits w) (take (length xs - 1) (drop 1 xs))) (flat_map (bits w) (all_numbers (values_of (take (length vs - 1) (drop 1 vs))))) in
    let other : (first && rest) ≡ first = rw differ refl in
    sym other ∙ both_by n w (n - w) xs vs d e a b first rest l k is_a is_b refl by_first refl
