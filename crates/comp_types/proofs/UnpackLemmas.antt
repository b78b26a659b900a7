-- One pair after another.
use Rattle.std.proofs.Common.{◌≡◌, ◌∙◌, ◌+◌, ◌<◌, ap, ℕ, zero, suc, List, [], ◌∷◌, Bool, true, false, Option, Some, None, drop, slice_get, get_or, length, arith}
use Rattle.comp_types.specs.Matching.{Pairs, GoesOn, onward, paired_one, paired, handed_one, handed_out}
use Rattle.comp_types.specs.Sizes.{item_size, entries_size}
use Rattle.comp_types.specs.Views.{item_of, entries_of}
use Rattle.comp_types.specs.declared.types.InstanceEntry.{InstanceEntry}
use Rattle.comp_types.proofs.ValueLemmas.{was_true, was_false}

pub at_front : (xs : Pairs) (i : ℕ) (p : ℕ × ℕ) → slice_get xs i ≡ Some p → drop i xs ≡ p ∷ drop (i + 1) xs
at_front [] i p e = cc
at_front (x ∷ xs) zero p e = let same : x ≡ p = cc in ap (λ q. q ∷ xs) same
at_front (x ∷ xs) (suc i) p e = let next : suc i + 1 ≡ suc (i + 1) = omega arith in rw next (at_front xs i p e)

module _ (owned own : ℕ → Bool) (inner new inside : Pairs) (i : ℕ) (p : ℕ × ℕ) (same : Bool) (all : Option Pairs)
    (so_far : all ≡ paired owned own inner (drop i inside)) (here : slice_get inside i ≡ Some p) (step : GoesOn same new (paired_one owned own inner p)) where
  pub paired_goes : same ≡ true → all ≡ paired owned own new (drop (i + 1) inside)
  paired_goes e = so_far ∙ (ap (paired owned own inner) (at_front inside i p here) ∙ ap (onward (λ more. paired owned own more (drop (i + 1) inside))) (was_true same new (paired_one owned own inner p) step e))

  pub paired_stops : same ≡ false → all ≡ None
  paired_stops e = so_far ∙ (ap (paired owned own inner) (at_front inside i p here) ∙ ap (onward (λ more. paired owned own more (drop (i + 1) inside))) (was_false same new (paired_one owned own inner p) step e))

module _ (own : ℕ → Bool) (by new inside : Pairs) (i : ℕ) (p : ℕ × ℕ) (same : Bool) (all : Option Pairs)
    (so_far : all ≡ handed_out own by (drop i inside)) (here : slice_get inside i ≡ Some p) (step : GoesOn same new (handed_one own by p)) where
  pub handed_goes : same ≡ true → all ≡ handed_out own new (drop (i + 1) inside)
  handed_goes e = so_far ∙ (ap (handed_out own by) (at_front inside i p here) ∙ ap (onward (λ more. handed_out own more (drop (i + 1) inside))) (was_true same new (handed_one own by p) step e))

  pub handed_stops : same ≡ false → all ≡ None
  handed_stops e = so_far ∙ (ap (handed_out own by) (at_front inside i p here) ∙ ap (onward (λ more. handed_out own more (drop (i + 1) inside))) (was_false same new (handed_one own by p) step e))

-- an item is smaller than the entries in which it stands
pub item_in : (es : List InstanceEntry) (i : ℕ) (d : InstanceEntry) → i < length es → item_size (item_of (get_or es i d).ty) < entries_size (entries_of es)
item_in [] i d lt = absurd (omega (arith, lt))
item_in (e ∷ es) zero d lt = omega arith
item_in (e ∷ es) (suc i) d lt = omega (arith, item_in es i d (omega (arith, lt)))
