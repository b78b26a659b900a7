-- How many types a `Flat` has, which stands for a list.
use Rattle.std.proofs.Common.{◌≡◌, ◌∙◌, ap, sym, ℕ, ◌<◌, ◌≤◌, List, length, take, Some, None, ◌⊎◌, inl, inr, arith}
use Rattle.std.specs.Prelude.{nat_lt, nat_le, if◌then◌else◌}
use Rattle.std.proofs.lemmas.Bool.{cases_lt}
use Rattle.std.proofs.lemmas.Bool.Decides.{nat_tests}
use Rattle.std.proofs.lemmas.List.{length-take-le}
use Rattle.virt_base.specs.declared.core_type.CoreType.{CoreType}
use Rattle.abi_layout.specs.Flat.{within}
use Rattle.abi_layout.proofs.FlatLemmas.{within-short, within-long, flag-short, flag-long}

some_same : (xs ys : List CoreType) → Some xs ≡ Some ys → xs ≡ ys
some_same xs ys e = cc

-- either both are long, or the types are the list
pub same_list : (types : List CoreType) (n : ℕ) (xs : List CoreType) → (if nat_le n 16 then Some (take n types) else None) ≡ within xs
    → ((16 < n) × (16 < length xs)) ⊎ ((n ≤ 16) × (take n types ≡ xs))
same_list types n xs e = elim (cases_lt 16 n) [
  | inl long ↦ elim (cases_lt 16 (length xs)) [
    | inl longer ↦ inl (long, longer)
    | inr short ↦ (let p = flag-long n (take n types) long in let q = within-short xs short in absurd (cc))
  ]
  | inr few ↦ elim (cases_lt 16 (length xs)) [
    | inl longer ↦ (let p = flag-short n (take n types) few in let q = within-long xs longer in absurd (cc))
    | inr short ↦ (let p = flag-short n (take n types) few in let q = within-short xs short in inr (few, some_same (take n types) xs (sym p ∙ (e ∙ q))))
  ]
]

pub more_than_16 : (types : List CoreType) (n : ℕ) (xs : List CoreType) → length types ≡ 16 → (if nat_le n 16 then Some (take n types) else None) ≡ within xs
    → nat_lt 16 n ≡ nat_lt 16 (length xs)
more_than_16 types n xs whole e = elim (same_list types n xs e) [
  | inl both ↦ (let a = both.0 in let b = both.1 in grind (arith, nat_tests))
  | inr short ↦ (let few : n ≤ length types = omega (arith, short.0) in let k = length-take-le n types few in let l = ap length short.1 in
      let m : length xs ≡ n = sym l ∙ k in ap (nat_lt 16) (sym m))
]

pub more_than_1 : (types : List CoreType) (n : ℕ) (xs : List CoreType) → length types ≡ 16 → (if nat_le n 16 then Some (take n types) else None) ≡ within xs
    → nat_lt 1 n ≡ nat_lt 1 (length xs)
more_than_1 types n xs whole e = elim (same_list types n xs e) [
  | inl both ↦ (let a = both.0 in let b = both.1 in grind (arith, nat_tests))
  | inr short ↦ (let few : n ≤ length types = omega (arith, short.0) in let k = length-take-le n types few in let l = ap length short.1 in
      let m : length xs ≡ n = sym l ∙ k in ap (nat_lt 1) (sym m))
]
