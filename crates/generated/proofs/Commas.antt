-- After the first text of a list a comma stands before each.
use Rattle.std.proofs.Common.{◌≡◌, refl, ℕ, zero, suc}
use Rattle.std.specs.Prelude.{codes}
use Rattle.generated.specs.Scripts.{comma}

pub comma_later : (k : ℕ) → (k ≡ 0 → ⊥) → comma k ≡ codes ","
comma_later zero h = absurd (h refl)
comma_later (suc k) h = refl
