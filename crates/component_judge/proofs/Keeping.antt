-- A quantity keeps its limit or passes it.
use Rattle.std.proofs.Common.{ℕ, Option, Some, None, arith}
use Rattle.component_judge.specs.Limits.{Keeps, Passes}

pub keeps_or_passes : (limit : Option ℕ) (value : ℕ) → Keeps limit value → Passes limit value → ⊥
keeps_or_passes None value h g = g
keeps_or_passes (Some limit) value h g = omega (arith, h, g)
