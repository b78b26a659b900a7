-- The state of the reference host.
use Rattle.reference_step.specs.State.{Reference}
use Rattle.reference_host.specs.declared.state.State.{State}
use Rattle.reference_host.specs.Kept.{IsHolding, IsSetting, reference_at}

-- with a state of the host that is asked
abbrev pub reference_of : {S : Type 0} → State → S → Reference S
reference_of s inner = reference_at s.setting s.holding inner

pub record IsState (s : State) : Type 0 where
  pub setting : IsSetting s.setting
  pub holding : IsHolding s.setting s.holding
