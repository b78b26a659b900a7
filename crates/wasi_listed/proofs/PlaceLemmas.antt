-- The functions of interfaces in one list.
use Rattle.std.proofs.Common.{◌≡◌, ℕ, zero, suc, ◌+◌, ◌-◌, ◌<◌, ◌≤◌, List, [], ◌∷◌, ◌++◌, Some, length, get_or, slice_get, ap, ◌∙◌, arith}
use Rattle.wasi_table.specs.Plain.{PlainNamedFunc}
use Rattle.wasi_listed.specs.Listed.{PlainListed, described, placed, functions_from}

-- how many places there are in all
abbrev pub total : List ℕ → ℕ
total [] = 0
total (n ∷ ns) = n + total ns

abbrev at : ℕ → PlainNamedFunc → ℕ → PlainListed
at i f n = record { interface = i; place = n; function = f }

pub here : (i q : ℕ) (fs : List PlainNamedFunc) (rest : List PlainListed) (p : ℕ) (d : PlainNamedFunc) → p < length fs
    → slice_get (placed i q fs ++ rest) p ≡ Some (at i (get_or fs p d) (q + p))
here i q [] rest p d less = absurd (omega arith)
here i q (f ∷ fs) rest zero d less =
    let e : q ≡ q + 0 = omega arith in
    ap (λ n. Some (at i f n)) e
here i q (f ∷ fs) rest (suc p) d less =
    let e : q + 1 + p ≡ q + suc p = omega arith in
    here i (q + 1) fs rest p d (omega arith) ∙ ap (λ n. Some (at i (get_or fs p d) n)) e

pub behind : (i q : ℕ) (fs : List PlainNamedFunc) (rest : List PlainListed) (p : ℕ) → length fs ≤ p
    → slice_get (placed i q fs ++ rest) p ≡ slice_get rest (p - length fs)
behind i q [] rest p most =
    let e : p ≡ p - 0 = omega arith in
    ap (slice_get rest) e
behind i q (f ∷ fs) rest zero most = absurd (omega arith)
behind i q (f ∷ fs) rest (suc p) most =
    let e : p - length fs ≡ suc p - suc (length fs) = omega arith in
    behind i (q + 1) fs rest p (omega arith) ∙ ap (slice_get rest) e

-- a place inside an interface, and one after it
module _ (i p c : ℕ) (less : i < 27) (is : length (described i).functions ≡ c) where
  abbrev rest : List PlainListed
  rest = functions_from (27 - (i + 1)) (i + 1)

  opened : slice_get (functions_from (27 - i) i) p ≡ slice_get (placed i 0 (described i).functions ++ rest) p
  unfolding functions_from
  opened =
      let e : 27 - i ≡ suc (27 - (i + 1)) = omega (arith, less) in
      ap (λ k. slice_get (functions_from k i) p) e

  pub inside : p < c → (d : PlainNamedFunc) → slice_get (functions_from (27 - i) i) p ≡ Some (at i (get_or (described i).functions p d) p)
  inside before d =
      let e : 0 + p ≡ p = omega arith in
      opened ∙ here i 0 (described i).functions rest p d (omega (arith, is, before)) ∙ ap (λ n. Some (at i (get_or (described i).functions p d) n)) e

  pub further : c ≤ p → slice_get (functions_from (27 - i) i) p ≡ slice_get (functions_from (27 - (i + 1)) (i + 1)) (p - c)
  further most = opened ∙ behind i 0 (described i).functions rest p (omega (arith, is, most)) ∙ ap (λ n. slice_get rest (p - n)) is
