-- One pair after another.
use Rattle.std.proofs.Common.{◌≡◌, ◌∙◌, ◌+◌, ap, sym, ℕ, [], ◌∷◌, Bool, true, false, Option, Some, None, drop, slice_get}
use Rattle.comp_types.specs.Substitution.{and_pair}
use Rattle.comp_types.specs.Matching.{Pairs, GoesOn, meet, onward}
use Rattle.comp_types.proofs.UnpackLemmas.{at_front}
use Rattle.comp_types.proofs.ValueLemmas.{was_true, was_false}
use Rattle.plug_match.specs.Numbers.{number_of, handed_on, with_pairs}

module _ (kinds by new pairs : Pairs) (i : ℕ) (p : ℕ × ℕ) (number : ℕ) (same : Bool) (all : Option Pairs)
    (so_far : all ≡ handed_on kinds by (drop i pairs)) (here : slice_get pairs i ≡ Some p) (is : number ≡ number_of kinds p.1) (step : GoesOn same new (meet by p.0 number)) where
  there : all ≡ onward (λ more. handed_on kinds more (drop (i + 1) pairs)) (meet by p.0 number)
  there =
      so_far ∙ (ap (handed_on kinds by) (at_front pairs i p here)
      ∙ ap (λ n. onward (λ more. handed_on kinds more (drop (i + 1) pairs)) (meet by p.0 n)) (sym is))

  pub handed_goes : same ≡ true → all ≡ handed_on kinds new (drop (i + 1) pairs)
  handed_goes e = there ∙ ap (onward (λ more. handed_on kinds more (drop (i + 1) pairs))) (was_true same new (meet by p.0 number) step e)

  pub handed_stops : same ≡ false → all ≡ None
  handed_stops e = there ∙ ap (onward (λ more. handed_on kinds more (drop (i + 1) pairs))) (was_false same new (meet by p.0 number) step e)

pub added_one : (own new pairs all : Pairs) (i : ℕ) (p : ℕ × ℕ) → all ≡ with_pairs own (drop i pairs) → slice_get pairs i ≡ Some p → new ≡ and_pair own p.0 p.1
    → all ≡ with_pairs new (drop (i + 1) pairs)
added_one own new pairs all i p so_far here is =
    so_far ∙ (ap (with_pairs own) (at_front pairs i p here) ∙ ap (λ ps. with_pairs ps (drop (i + 1) pairs)) (sym is))
