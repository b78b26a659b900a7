-- The resource has another number in the second group, and nothing else differs.
use Rattle.std.proofs.Common.{◌≡◌, ℕ, zero, suc, refl, arith}
use Rattle.std.specs.Option.{option_map}
use Rattle.comp_inside.specs.Renaming.{canon_with, Renames}
use Rattle.link_rows.specs.Renumbered.{dropper_at, seven_more}

same_canons : (k n : ℕ) → (dropper_at 10).canons k n ≡ option_map (canon_with seven_more) ((dropper_at 3).canons k n)
same_canons zero zero = refl
same_canons zero (suc zero) = refl
same_canons zero (suc (suc n)) = refl
same_canons (suc k) zero = refl
same_canons (suc k) (suc zero) = refl
same_canons (suc k) (suc (suc n)) = refl

pub renumbered : Renames (dropper_at 3) (dropper_at 10) seven_more
renumbered = record { canons = same_canons; owner = λ r. refl; imported = λ r some. refl; exports = λ interface function. refl; stages = refl; once = λ r s e. omega (arith, e) }
