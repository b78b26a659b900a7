-- Counts of open scratch files.
use Rattle.std.proofs.Common.{◌≡◌, ℕ, ◌+◌, ◌-◌, ◌<◌, List, length, set, get_or, Option, Some, None, Bool, true, false, nat_lt, nat_eq, cond, refl, sym, arith, inl, inr, length-set}
use Rattle.std.specs.Option.{option_map_or}
use Rattle.std.proofs.lemmas.Bool.{cases_eq}
use Rattle.std.proofs.lemmas.Bool.Decides.{nat_tests}
use Rattle.std.proofs.lemmas.List.{get_or-set_same, get_or-set_other}
use Rattle.ref_rules.specs.Holding.{more_open, less_open}

abbrev pub is_file : Option ℕ → ℕ → Bool
is_file o file = option_map_or (λ n. nat_eq n file) o false

pub length-more : (held : List ℕ) (o : Option ℕ) → length (more_open held o) ≡ length held
length-more held None = refl
length-more held (Some n) = length-set held n _

pub length-less : (held : List ℕ) (o : Option ℕ) → length (less_open held o) ≡ length held
length-less held None = refl
length-less held (Some n) = length-set held n _

pub more-at : (held : List ℕ) (o : Option ℕ) (file : ℕ) → file < length held → get_or (more_open held o) file 0 ≡ get_or held file 0 + cond (is_file o file) 1 0
more-at held None file within = omega arith
more-at held (Some n) file within =
    elim (cases_eq n file) [
      | inl same ↦
          let test : nat_eq n file ≡ true = grind (arith, nat_tests) in
          let read : get_or (set held n (get_or held n 0 + 1)) file 0 ≡ get_or held file 0 + 1 = rw same (get_or-set_same held file (get_or held file 0 + 1) 0 within) in
          rw test read
      | inr other ↦
          let test : nat_eq n file ≡ false = grind (arith, nat_tests) in
          let read : get_or (set held n (get_or held n 0 + 1)) file 0 ≡ get_or held file 0 = get_or-set_other held n file _ 0 (λ e. other (sym e)) in
          rw (test, read) (omega arith)
    ]

pub less-at : (held : List ℕ) (o : Option ℕ) (file : ℕ) → file < length held → get_or (less_open held o) file 0 ≡ get_or held file 0 - cond (is_file o file) 1 0
less-at held None file within = omega arith
less-at held (Some n) file within =
    elim (cases_eq n file) [
      | inl same ↦
          let test : nat_eq n file ≡ true = grind (arith, nat_tests) in
          let read : get_or (set held n (get_or held n 0 - 1)) file 0 ≡ get_or held file 0 - 1 = rw same (get_or-set_same held file (get_or held file 0 - 1) 0 within) in
          rw test read
      | inr other ↦
          let test : nat_eq n file ≡ false = grind (arith, nat_tests) in
          let read : get_or (set held n (get_or held n 0 - 1)) file 0 ≡ get_or held file 0 = get_or-set_other held n file _ 0 (λ e. other (sym e)) in
          rw (test, read) (omega arith)
    ]

pub is_file-same : (file : ℕ) → is_file (Some file) file ≡ true
is_file-same file = grind (arith, nat_tests)

lt_from : (n m : ℕ) → nat_lt n m ≡ true → n < m
lt_from n m e = grind (arith, nat_tests)

pub within_files : (o : Option ℕ) (files file : ℕ) → option_map_or (λ n. nat_lt n files) o true ≡ true → o ≡ Some file → file < files
within_files None files file inside is = absurd cc
within_files (Some n) files file inside is = let same : n ≡ file = cc in rw (← same) (lt_from n files inside)
