-- The first fault of items in a row.
use Rattle.std.proofs.Common.{◌≡◌, ℕ, ◌<◌, ◌≤◌, ◌+◌, suc, refl, sym, ◌∙◌, ap, Option, Some, None, List, [], ◌∷◌, ◌++◌, Bool, true, false, is_some, length, take, drop, get_or, map, arith, drop-cons}
use Rattle.std.proofs.lemmas.List.{take_more}
use Rattle.std.proofs.Math.ListN.{drop_of_length-le}
use Rattle.core_body.specs.Context.{Context}
use Rattle.core_validate.specs.Gather.{with_earlier}
use Rattle.core_validate.specs.Items.{Item}
use Rattle.core_validate.specs.Faults.{fault, or_else, first_fault}

module _ (c : Context) where
  or_else-stop : (a b : Option ℕ) → is_some a ≡ true → or_else a b ≡ a
  or_else-stop None b e = cc
  or_else-stop (Some n) b e = refl

  or_else-pass : (a b : Option ℕ) → is_some a ≡ false → or_else a b ≡ b
  or_else-pass None b e = refl
  or_else-pass (Some n) b e = cc

  or_else-assoc : (a b d : Option ℕ) → or_else (or_else a b) d ≡ or_else a (or_else b d)
  or_else-assoc None b d = refl
  or_else-assoc (Some n) b d = refl

  first-append : (xs ys : List Item) → first_fault c (xs ++ ys) ≡ or_else (first_fault c xs) (first_fault c ys)
  first-append [] ys = refl
  first-append (x ∷ xs) ys = ap (or_else (fault c x)) (first-append xs ys) ∙ sym (or_else-assoc (fault c x) (first_fault c xs) (first_fault c ys))

  pub stops : (xs ys : List Item) (r : Option ℕ) → r ≡ first_fault c xs → is_some r ≡ true → r ≡ first_fault c (xs ++ ys)
  stops xs ys r e some = sym (first-append xs ys ∙ ap (λ a. or_else a (first_fault c ys)) (sym e) ∙ or_else-stop r (first_fault c ys) some)

  pub passes : (xs ys : List Item) (r s : Option ℕ) → r ≡ first_fault c xs → is_some r ≡ false → s ≡ first_fault c ys → s ≡ first_fault c (xs ++ ys)
  passes xs ys r s e none more = sym (first-append xs ys ∙ ap (λ a. or_else a (first_fault c ys)) (sym e) ∙ or_else-pass r (first_fault c ys) none ∙ sym more)

  -- a loop over items, each with those before it
  module _ {A : Type 0} (k : List A → A → Item) (xs : List A) where
    abbrev pub rest : ℕ → List Item
    rest i = with_earlier k (take i xs) (drop i xs)

    rest-cons : (i : ℕ) (x : A) → i < length xs → x ≡ get_or xs i x → rest i ≡ k (take i xs) x ∷ rest (i + 1)
    rest-cons i x h e =
        let step : suc i ≡ i + 1 = omega arith in
        ap (with_earlier k (take i xs)) (drop-cons xs i x h) ∙ ap (λ y. k (take i xs) y ∷ with_earlier k (take i xs ++ get_or xs i x ∷ []) (drop (suc i) xs)) (sym e)
        ∙ ap (λ l. k (take i xs) x ∷ with_earlier k l (drop (suc i) xs)) (sym (take_more xs i x h)) ∙ ap (λ n. k (take i xs) x ∷ with_earlier k (take (i + 1) xs) (drop n xs)) step

    pub loop-stop : (i : ℕ) (x : A) (r : Option ℕ) → i < length xs → x ≡ get_or xs i x → r ≡ fault c (k (take i xs) x) → is_some r ≡ true → r ≡ first_fault c (rest i)
    loop-stop i x r h e is some =
        sym (ap (first_fault c) (rest-cons i x h e) ∙ ap (λ a. or_else a (first_fault c (rest (i + 1)))) (sym is) ∙ or_else-stop r (first_fault c (rest (i + 1))) some)

    pub loop-go_on : (i : ℕ) (x : A) (r : Option ℕ) → i < length xs → x ≡ get_or xs i x → r ≡ fault c (k (take i xs) x) → is_some r ≡ false →
        first_fault c (rest (i + 1)) ≡ first_fault c (rest i)
    loop-go_on i x r h e is none =
        sym (ap (first_fault c) (rest-cons i x h e) ∙ ap (λ a. or_else a (first_fault c (rest (i + 1)))) (sym is) ∙ or_else-pass r (first_fault c (rest (i + 1))) none)

    pub loop-end : (i : ℕ) → length xs ≤ i → None ≡ first_fault c (rest i)
    loop-end i h = sym (ap (λ l. first_fault c (with_earlier k (take i xs) l)) (drop_of_length-le xs h))
