-- Lists that are gathered, item by item.
use Rattle.std.proofs.Common.{◌≡◌, ℕ, ◌<◌, ◌≤◌, ◌+◌, suc, refl, sym, ◌∙◌, ap, List, [], ◌∷◌, ◌++◌, Bool, true, length, take, drop, get_or, map, arith, drop-cons, append_assoc, append-nil}
use Rattle.std.specs.Prelude.{slice_set}
use Rattle.std.proofs.lemmas.List.{take_more, take_all, map-append}
use Rattle.std.proofs.Math.ListN.{drop_of_length-le}
use Rattle.core_validate.specs.Gather.{gather, with_earlier}
use Rattle.core_validate.specs.Spaces.{marked}

module _ {A B : Type 0} (f : A → List B) where
  gather-push : (xs : List A) (x : A) → gather f (xs ++ x ∷ []) ≡ gather f xs ++ f x
  gather-push [] x = append-nil (f x)
  gather-push (y ∷ xs) x = ap (λ l. f y ++ l) (gather-push xs x) ∙ sym (append_assoc (f y) (gather f xs) (f x))

  pub gather-step : (xs : List A) (i : ℕ) (x : A) → i < length xs → x ≡ get_or xs i x → gather f (take (i + 1) xs) ≡ gather f (take i xs) ++ f x
  gather-step xs i x h e =
      ap (gather f) (take_more xs i x h) ∙ gather-push (take i xs) (get_or xs i x) ∙ ap (λ y. gather f (take i xs) ++ f y) (sym e)

  pub gather-all : (xs : List A) (i : ℕ) → length xs ≤ i → gather f (take i xs) ≡ gather f xs
  gather-all xs i h = ap (gather f) (take_all i xs h)

marked-append : (xs ys : List ℕ) (marks : List Bool) → marked (xs ++ ys) marks ≡ marked ys (marked xs marks)
marked-append [] ys marks = refl
marked-append (x ∷ xs) ys marks = marked-append xs ys (slice_set marks x true)

pub marked-both : (xs ys : List ℕ) (marks : List Bool) → marked (xs ++ ys) marks ≡ marked ys (marked xs marks)
marked-both = marked-append

from-here : {A : Type 0} (xs : List A) (i : ℕ) (x : A) → i < length xs → x ≡ get_or xs i x → drop i xs ≡ x ∷ drop (i + 1) xs
from-here xs i x h e =
    let step : suc i ≡ i + 1 = omega arith in
    drop-cons xs i x h ∙ ap (λ y. y ∷ drop (suc i) xs) (sym e) ∙ ap (λ n. x ∷ drop n xs) step

pub marked-step : {A : Type 0} (f : A → List ℕ) (xs : List A) (i : ℕ) (x : A) (marks : List Bool) → i < length xs → x ≡ get_or xs i x →
    marked (gather f (drop (i + 1) xs)) (marked (f x) marks) ≡ marked (gather f (drop i xs)) marks
marked-step f xs i x marks h e =
    sym (ap (λ l. marked (gather f l) marks) (from-here xs i x h e) ∙ marked-append (f x) (gather f (drop (i + 1) xs)) marks)

pub marked-end : {A : Type 0} (f : A → List ℕ) (xs : List A) (i : ℕ) (marks : List Bool) → length xs ≤ i → marked (gather f (drop i xs)) marks ≡ marks
marked-end f xs i marks h = ap (λ l. marked (gather f l) marks) (drop_of_length-le xs h)

pub indexes-step : (ns : List ℕ) (i : ℕ) (marks : List Bool) → i < length ns → marked (drop (i + 1) ns) (slice_set marks (get_or ns i 0) true) ≡ marked (drop i ns) marks
indexes-step ns i marks h =
    let step : suc i ≡ i + 1 = omega arith in
    sym (ap (λ l. marked l marks) (drop-cons ns i 0 h) ∙ ap (λ n. marked (drop n ns) (slice_set marks (get_or ns i 0) true)) step)

pub indexes-end : (ns : List ℕ) (i : ℕ) (marks : List Bool) → length ns ≤ i → marked (drop i ns) marks ≡ marks
indexes-end ns i marks h = ap (λ l. marked l marks) (drop_of_length-le ns h)

-- a map, item by item
pub map-step : {A B : Type 0} (f : A → B) (xs : List A) (i : ℕ) (x : A) → i < length xs → x ≡ get_or xs i x → map f (take (i + 1) xs) ≡ map f (take i xs) ++ f x ∷ []
map-step f xs i x h e = ap (map f) (take_more xs i x h) ∙ map-append f (take i xs) (get_or xs i x ∷ []) ∙ ap (λ y. map f (take i xs) ++ f y ∷ []) (sym e)

pub map-all : {A B : Type 0} (f : A → B) (xs : List A) (i : ℕ) → length xs ≤ i → map f (take i xs) ≡ map f xs
map-all f xs i h = ap (map f) (take_all i xs h)
