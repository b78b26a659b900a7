-- The table `clocks`.
use Rattle.std.specs.Prelude.{ℕ, List, [], ◌∷◌, Result, Ok, codes}
use Rattle.toml.specs.Data.{Data, string, Members}
use Rattle.policy_data.specs.declared.fault.ReadPolicyFault.{ReadPolicyFault}
use Rattle.policy_data.specs.declared.data.WallTime.{WallTime}
use Rattle.policy_data.specs.declared.data.WallClock.{WallClock}
use Rattle.policy_data.specs.declared.data.WallClock.TheVariants.{Deny as NoWall, Fixed as FixedWall}
use Rattle.policy_data.specs.declared.data.MonotonicClock.{MonotonicClock}
use Rattle.policy_data.specs.declared.data.MonotonicClock.TheVariants.{Deny, Fixed}
use Rattle.policy_toml.specs.declared.clocks.Clocks.{Clocks}
use Rattle.policy_toml.specs.Reading.{and_then}
use Rattle.policy_toml.specs.Keys.{optional, required, table_in}
use Rattle.policy_toml.specs.Values.{choice_of, natural, number_in}
use Rattle.policy_data.specs.Words.{monotonic_named, wall_named}

abbrev pub time_keys : List (List ℕ)
time_keys = codes "seconds" ∷ codes "nanoseconds" ∷ []

abbrev pub time_of : List ℕ → Members → Result WallTime ReadPolicyFault
time_of path ms = and_then (required path (codes "seconds") natural ms)
    (λ seconds. and_then (required path (codes "nanoseconds") (number_in 0 999999999) ms)
    (λ nanoseconds. Ok (record { seconds = seconds; nanoseconds = nanoseconds })))

abbrev pub wall_in : List ℕ → Data → Result WallClock ReadPolicyFault
wall_in path (string word) = choice_of path (wall_named word)
wall_in path d = and_then (table_in time_keys time_of path d) (λ time. Ok (FixedWall time))

abbrev pub monotonic_in : List ℕ → Data → Result MonotonicClock ReadPolicyFault
monotonic_in path (string word) = choice_of path (monotonic_named word)
monotonic_in path d = and_then (natural path d) (λ nanoseconds. Ok (Fixed nanoseconds))

abbrev pub clocks_keys : List (List ℕ)
clocks_keys = codes "wall" ∷ codes "monotonic" ∷ []

abbrev pub clocks_of : List ℕ → Members → Result Clocks ReadPolicyFault
clocks_of path ms = and_then (optional path (codes "wall") NoWall wall_in ms)
    (λ wall. and_then (optional path (codes "monotonic") Deny monotonic_in ms)
    (λ monotonic. Ok (record { wall = wall; monotonic = monotonic })))
