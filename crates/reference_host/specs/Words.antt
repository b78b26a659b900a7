-- A policy whose numbers are within their words.
use Rattle.std.specs.Prelude.{◌<◌, ◌^◌}
use Rattle.policy_data.specs.declared.policy.Policy.{Policy}
use Rattle.reference_step.specs.Clocks.{instant}
use Rattle.reference_host.specs.Sound.{IsSoundClock}

pub record HasWords (policy : Policy) : Type 0 where
  pub limit : policy.transfer_limit < 2 ^ 32
  pub wall : IsSoundClock policy.clocks_wall
  pub monotonic : instant policy.clocks_monotonic < 2 ^ 64
