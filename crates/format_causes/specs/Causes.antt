-- The cause of a stop at a tag.
use Rattle.std.specs.Prelude.{◌≡◌, ℕ, ◌+◌, List, ◌∷◌, ◌++◌, length, Err}
use Rattle.virt_base.specs.Place.{Place}
use Rattle.wasm_format.specs.declared.stop.Stop.TheVariants.{Unsupported}
use Rattle.wasm_format.specs.Format.{Format}

-- This byte stands at this offset, and no value is spelled by bytes that begin as those at the place do, up to and with it.
abbrev pub Cause : {A : Type 0} → Format A → Place → ℕ → ℕ → Type 0
Cause {A} F p at byte = (front rest : List ℕ) × (p.rest ≡ front ++ byte ∷ rest) × (at ≡ p.at + length front) × ((a : A) (other : List ℕ) → F.Spells p.at a (front ++ byte ∷ other) → ⊥)

-- Reading stops at a tag for a cause alone.
pub record IsCaused {A : Type 0} (F : Format A) : Type 0 where
  pub caused : (p : Place) (at byte : ℕ) → F.read p ≡ Err (Unsupported at byte) → Cause F p at byte
