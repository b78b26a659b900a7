-- Binary search among names.
use Rattle.std.proofs.Common.{◌≡◌, ℕ, zero, suc, ◌+◌, ◌/◌, ◌^◌, ◌<◌, ◌≤◌, List, nat_cmp, Ordering, sym, ap, ◌∙◌, inl, inr, arith}
use Rattle.std.proofs.Math.Nat.{pow-suc}
use Rattle.std.specs.Cmp.Lexicographic.{slice_cmp}
use Rattle.std.specs.Ordering.{ordering_reverse}
use Rattle.std.specs.declared.cmp.Ordering.TheVariants.{Less, Equal, Greater}
use Rattle.std.proofs.lemmas.Cmp.{nat_list_cmp_total, tied_itself}
use Rattle.std.proofs.lemmas.Bool.{cases_eq}

abbrev pub IsSorted : (ℕ → List ℕ) → ℕ → ℕ → Type 0
IsSorted name lo hi = (i j : ℕ) → lo ≤ i → i < j → j < hi → slice_cmp nat_cmp (name i) (name j) ≡ Less

-- at and before a lesser name
pub all_below : (name : ℕ → List ℕ) (part : List ℕ) (lo hi middle i : ℕ) → IsSorted name lo hi → middle < hi → slice_cmp nat_cmp (name middle) part ≡ Less → lo ≤ i → i ≤ middle → slice_cmp nat_cmp (name i) part ≡ Less
all_below name part lo hi middle i sorted within less low at =
    elim (cases_eq i middle) [
      | inl same ↦ ap (λ k. slice_cmp nat_cmp (name k) part) same ∙ less
      | inr other ↦ nat_list_cmp_total.trans (name i) (name middle) part (sorted i middle low (omega arith) within) less
    ]

-- at and after a greater name
pub all_above : (name : ℕ → List ℕ) (part : List ℕ) (lo hi middle i : ℕ) → IsSorted name lo hi → lo ≤ middle → slice_cmp nat_cmp (name middle) part ≡ Greater → middle ≤ i → i < hi → slice_cmp nat_cmp (name i) part ≡ Greater
all_above name part lo hi middle i sorted low greater at within =
    elim (cases_eq i middle) [
      | inl same ↦ ap (λ k. slice_cmp nat_cmp (name k) part) same ∙ greater
      | inr other ↦
          let first : slice_cmp nat_cmp part (name middle) ≡ Less = nat_list_cmp_total.antisymm part (name middle) ∙ ap ordering_reverse greater in
          let more = nat_list_cmp_total.trans part (name middle) (name i) first (sorted middle i low (omega arith) within) in
          nat_list_cmp_total.antisymm (name i) part ∙ ap ordering_reverse more
    ]

-- half of the names are left after a probe
pub halve : (size new left : ℕ) → 0 < size → new ≤ size / 2 → size < 2 ^ left → (rest : ℕ) × (left ≡ rest + 1) × (new < 2 ^ rest)
halve size new zero some half small = absurd (omega arith)
halve size new (suc left) some half small =
    let twice = pow-suc 2 left in
    (left, omega arith, omega arith)

-- a name is equal to itself
pub never_itself : (r : Ordering) → (r ≡ Equal → ⊥) → (x y : List ℕ) → slice_cmp nat_cmp x y ≡ r → x ≡ y → ⊥
never_itself r other x y is same = other (sym is ∙ ap (λ z. slice_cmp nat_cmp z y) same ∙ itself y)
  where
    itself : (z : List ℕ) → slice_cmp nat_cmp z z ≡ Equal
    itself z = tied_itself nat_list_cmp_total z
