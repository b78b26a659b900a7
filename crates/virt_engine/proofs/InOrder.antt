-- Elements that differ stand in one order: lists of the same elements that are sorted are the same list.
use Rattle.std.proofs.Common.{◌≡◌, ◌⊎◌, ◌∙◌, refl, sym, ap, subst, zero, suc, ◌+◌, List, [], ◌∷◌, Ordering, Contains, get_or, inl, inr, arith, true, false}
use Rattle.std.specs.List.{IsDistinct}
use Rattle.std.specs.List.Sorted.{IsPermutation, IsSorted, IsStrictlySortedBy}
use Rattle.std.specs.Cmp.{IsTotalOrder}
use Rattle.std.specs.Ordering.{is_lt, is_eq, ordering_reverse, eq_by_cmp}
use Rattle.std.specs.declared.cmp.Ordering.TheVariants.{Less, Equal, Greater}
use Rattle.std.proofs.lemmas.Cmp.{eq_by_cmp_equiv}
use Rattle.std.proofs.lemmas.List.Elements.{All-contains, All-from_recursion}
use Rattle.std.proofs.lemmas.List.Sorted.{Contains-permutation, IsPermutation-sym}
use Rattle.std.proofs.lemmas.Map.Keys.{IsDistinct-IsPermutation, apart_from_distinct, sorted_from_all_adjacent, sorted_head, sorted_tail}

less_or_greater : Less ≡ Greater → ⊥
less_or_greater e = cc

-- neither is lower, and they differ
rises : (r s : Ordering) → r ≡ ordering_reverse s → is_lt s ≡ false → is_eq r ≡ false → r ≡ Less
rises r Less back low apart = cc
rises r Equal back low apart = let tied : is_eq r ≡ true = ap is_eq back in cc
rises r Greater back low apart = back

in_rest : {K : Type 0} → (x : K) (xs : List K) (q : K) → Contains (x ∷ xs) q → (x ≡ q) ⊎ Contains xs q
in_rest x xs q (zero, within, is) = inl is
in_rest x xs q (suc k, within, is) = inr (k, omega (arith, within), is)

module _ {K : Type 0} {R : K → K → Ordering} (o : IsTotalOrder R) where
  one_way : (x y : K) → R x y ≡ Less → R y x ≡ Less → ⊥
  one_way x y h g = less_or_greater (sym h ∙ o.antisymm x y ∙ ap ordering_reverse g)

  -- ---- lists that rise

  behind : (x : K) (xs : List K) → IsStrictlySortedBy R (x ∷ xs) → (q : K) → Contains xs q → R x q ≡ Less
  behind x xs s q there = All-contains (λ y. R x y ≡ Less) xs q (All-from_recursion (λ y. R x y ≡ Less) xs (sorted_head R x xs s)) there

  one_first : (x y : K) (xs ys : List K) → IsStrictlySortedBy R (x ∷ xs) → IsStrictlySortedBy R (y ∷ ys) → Contains (x ∷ xs) y → Contains (y ∷ ys) x → x ≡ y
  one_first x y xs ys s t h g = by (in_rest x xs y h) (in_rest y ys x g)
    where
      by : (x ≡ y) ⊎ Contains xs y → (y ≡ x) ⊎ Contains ys x → x ≡ y
      by (inl e) k = e
      by (inr i) (inl e) = sym e
      by (inr i) (inr k) = absurd (one_way x y (behind x xs s y i) (behind y ys t x k))

  -- after the same first element stand the same others
  same_rest : (x : K) (xs ys : List K) → IsStrictlySortedBy R (x ∷ xs) → ((q : K) → Contains (x ∷ xs) q → Contains (x ∷ ys) q) → (q : K) → Contains xs q → Contains ys q
  same_rest x xs ys s into q there = by (in_rest x ys q (into q (suc there.0, omega (arith, there.1), there.2)))
    where
      by : (x ≡ q) ⊎ Contains ys q → Contains ys q
      by (inl e) = let low : R x x ≡ Less = subst (λ (z : K). R x z ≡ Less) (sym e) (behind x xs s q there) in absurd (one_way x x low low)
      by (inr there) = there

  one_rising : (xs ys : List K) → IsStrictlySortedBy R xs → IsStrictlySortedBy R ys → ((q : K) → Contains xs q → Contains ys q) → ((q : K) → Contains ys q → Contains xs q) → xs ≡ ys
  one_rising [] [] s t into back = refl
  one_rising [] (y ∷ ys) s t into back = absurd (omega (arith, (back y (0, omega arith, refl)).1))
  one_rising (x ∷ xs) [] s t into back = absurd (omega (arith, (into x (0, omega arith, refl)).1))
  one_rising (x ∷ xs) (y ∷ ys) s t into back =
      let first : y ≡ x = sym (one_first x y xs ys s t (back y (0, omega arith, refl)) (into x (0, omega arith, refl))) in
      let t' = subst (λ (z : K). IsStrictlySortedBy R (z ∷ ys)) first t in
      let into' = subst (λ (z : K). (q : K) → Contains (x ∷ xs) q → Contains (z ∷ ys) q) first into in
      let back' = subst (λ (z : K). (q : K) → Contains (z ∷ ys) q → Contains (x ∷ xs) q) first back in
      ap (λ zs. x ∷ zs) (one_rising xs ys (sorted_tail R x xs s) (sorted_tail R x ys t') (same_rest x xs ys s into') (same_rest x ys xs t' back')) ∙ ap (λ z. z ∷ ys) (sym first)

  -- ---- lists that are sorted

  rising : (xs : List K) → IsDistinct (eq_by_cmp R) xs → IsSorted R xs → IsStrictlySortedBy R xs
  unfolding IsStrictlySortedBy
  rising [] apart sorted = tt
  rising (x ∷ xs) apart sorted =
      sorted_from_all_adjacent o (x ∷ xs) x (λ k within.
      let a = get_or (x ∷ xs) k x in
      let b = get_or (x ∷ xs) (k + 1) x in
      rises (R a b) (R b a) (o.antisymm a b) (sorted k x (omega arith) within) (apart_from_distinct (eq_by_cmp R) (x ∷ xs) k (k + 1) x apart (omega arith) within))

  pub one_order : (all xs ys : List K) → IsDistinct (eq_by_cmp R) all → IsPermutation all xs → IsPermutation all ys → IsSorted R xs → IsSorted R ys → xs ≡ ys
  one_order all xs ys apart p q s t =
      let kept : (zs : List K) → IsPermutation all zs → IsDistinct (eq_by_cmp R) zs = λ zs r. IsDistinct-IsPermutation (eq_by_cmp R) (eq_by_cmp_equiv o).symm all zs r apart in
      one_rising xs ys (rising xs (kept xs p) s) (rising ys (kept ys q) t)
      (λ e there. Contains-permutation all ys e q (Contains-permutation xs all e (IsPermutation-sym all xs p) there))
      (λ e there. Contains-permutation all xs e p (Contains-permutation ys all e (IsPermutation-sym all ys q) there))
