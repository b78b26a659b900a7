-- Steps, and the calls that take one as they begin. (The number of calls and the order of the two are this project's own.)
use Rattle.std.specs.Prelude.{◌≡◌, ◌≤◌, ◌<◌, ◌+◌, ℕ, Result, Ok, Err}
use Rattle.call_moments.specs.declared.end.Stop.{Stop}
use Rattle.call_moments.specs.declared.end.Stop.TheVariants as stops
use Rattle.call_moments.specs.declared.depth.Depth.{Depth}

-- one step less is left, or none was
abbrev pub TakesStep : ℕ → ℕ → Result (Unit {0}) Stop → Type 0
TakesStep old new (Ok done) = old ≡ new + 1
TakesStep old new (Err stops.Spent) = old ≡ 0
TakesStep old new (Err stops.Trapped) = ⊥
TakesStep old new (Err stops.ScriptEnded) = ⊥
TakesStep old new (Err stops.BadAnswer) = ⊥
TakesStep old new (Err stops.TooDeep) = ⊥
TakesStep old new (Err stops.NoMemory) = ⊥

-- where that many calls are in progress: one more is, or no step was left, or none for the last of too many calls, or that is too deep
abbrev pub BeginsCall : ℕ → ℕ → ℕ → Result Depth Stop → Type 0
BeginsCall old calls new (Ok depth) = (old ≡ new + 1) × (calls < 65536) × (depth.calls ≡ calls + 1)
BeginsCall old calls new (Err stops.Spent) = (old ≤ 1) × (calls < 65536 → old ≡ 0)
BeginsCall old calls new (Err stops.TooDeep) = (2 ≤ old) × (65536 ≤ calls)
BeginsCall old calls new (Err stops.Trapped) = ⊥
BeginsCall old calls new (Err stops.ScriptEnded) = ⊥
BeginsCall old calls new (Err stops.BadAnswer) = ⊥
BeginsCall old calls new (Err stops.NoMemory) = ⊥
