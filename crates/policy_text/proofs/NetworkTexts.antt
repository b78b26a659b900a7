-- The numbers of an address, part by part.
use Rattle.std.proofs.Common.{◌≡◌, ◌∙◌, refl, ap, sym, ℕ, List, [], ◌∷◌, ◌++◌}
use Rattle.std.specs.Prelude.{Option, Some, None, option_and_then}
use Rattle.std.proofs.Math.Seq.{append_snoc}
use Rattle.policy_text.specs.Networks.{all_numbers}
use Rattle.policy_text.proofs.HexTurns.{in_front}

joined_front : (ns : List ℕ) (n : ℕ) (more : Option (List ℕ))
    → in_front ns (option_and_then (λ ms. Some (n ∷ ms)) more) ≡ in_front (ns ++ n ∷ []) more
joined_front ns n None = refl
joined_front ns n (Some ms) = ap Some (sym (append_snoc ns n ms))

pub number_turn : (number : List ℕ → Option ℕ) (ns : List ℕ) (part : List ℕ) (parts more : List (List ℕ)) (n : ℕ) → parts ≡ part ∷ more
    → number part ≡ Some n → in_front ns (all_numbers number parts) ≡ in_front (ns ++ n ∷ []) (all_numbers number more)
number_turn number ns part parts more n begins is =
    ap (λ ps. in_front ns (all_numbers number ps)) begins
    ∙ (ap (λ o. in_front ns (option_and_then (λ m. option_and_then (λ ms. Some (m ∷ ms)) (all_numbers number more)) o)) is
    ∙ joined_front ns n (all_numbers number more))
