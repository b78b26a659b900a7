-- wasi:clocks/wall-clock and wasi:clocks/monotonic-clock, where the policy fixes the clock.
use Rattle.std.specs.Prelude.{ℕ, [], ◌∷◌}
use Rattle.wit_types.specs.PlainValue.{PlainValue}
use Rattle.policy_data.specs.declared.data.WallClock.{WallClock}
use Rattle.policy_data.specs.declared.data.WallClock.TheVariants.{Fixed as FixedWall}
use Rattle.policy_data.specs.declared.data.MonotonicClock.{MonotonicClock}
use Rattle.policy_data.specs.declared.data.MonotonicClock.TheVariants.{Fixed as FixedMonotonic}
use Rattle.reference_step.specs.Handles.{Always}
use Rattle.reference_step.specs.Values.{number, record_of}
use Rattle.reference_step.specs.State.{View, Row, returns, gives}

abbrev pub datetime : (seconds nanoseconds : ℕ) → PlainValue
datetime seconds nanoseconds = record_of (number seconds ∷ number nanoseconds ∷ [])

abbrev pub wall_time : WallClock → PlainValue
wall_time (FixedWall t) = datetime t.seconds t.nanoseconds
wall_time _ = datetime 0 0

abbrev pub wall_now : View → Row
wall_now v = returns (wall_time v.policy.clocks_wall)

abbrev pub wall_resolution : Row
wall_resolution = returns (datetime 0 1)

abbrev pub instant : MonotonicClock → ℕ
instant (FixedMonotonic n) = n
instant _ = 0

abbrev pub monotonic_now : View → Row
monotonic_now v = returns (number (instant v.policy.clocks_monotonic))

abbrev pub monotonic_resolution : Row
monotonic_resolution = returns (number 1)

-- subscribe-instant, subscribe-duration
abbrev pub subscribe : Row
subscribe = gives Always
