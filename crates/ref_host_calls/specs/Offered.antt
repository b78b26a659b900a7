-- Offers that are made one by one.
use Rattle.std.specs.Prelude.{◌≡◌, List, ◌++◌}
use Rattle.wit_types.specs.PlainValue.{PlainValue}
use Rattle.host_port.specs.Calls.{PlainObservation}
use Rattle.host_port.specs.Hosts.{HostStep}
use Rattle.reference_step.specs.State.{Reference}
use Rattle.reference_step.specs.Steps.{Offer, offers}

-- some offers were made, and the others are still to come
pub record GoesOn {S : Type 0} (h : HostStep S) (before : Reference S) (saw : List PlainObservation) (values : List PlainValue) (all : List (Offer h)) (next : Reference S) (given : List PlainValue) (rest : List (Offer h)) (base after : List PlainObservation) : Type 0 where
  pub shows : List PlainObservation
  pub seen : after ≡ base ++ shows
  pub same : offers h before saw values all ≡ offers h next shows given rest
