-- Runs of locals by their ends, the first of which begins at a place.
use Rattle.std.specs.Prelude.{ℕ, ◌-◌, ◌≤◌, Option, Some, None, List, [], ◌∷◌, ◌++◌, replicate, nat_lt, if◌then◌else◌}
use Rattle.virt_base.specs.declared.core_type.CoreType.{CoreType}
use Rattle.core_body.specs.declared.locals.RunEnd.{RunEnd}

abbrev pub fill : ℕ → List RunEnd → List CoreType
fill from [] = []
fill from (e ∷ es) = replicate (e.end - from) e.ty ++ fill e.end es

abbrev pub IsRising : ℕ → List RunEnd → Type 0
IsRising from [] = Unit {0}
IsRising from (e ∷ es) = (from ≤ e.end) × IsRising e.end es

-- the type of the run that a place is in
abbrev pub run_at : ℕ → List RunEnd → Option CoreType
run_at n [] = None
run_at n (e ∷ es) = if nat_lt n e.end then Some e.ty else run_at n es
