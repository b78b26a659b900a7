-- The tests that are left before a call reaches the host that is asked: where it passes them, the host's answer has the call's
-- result type.
use Rattle.std.specs.Prelude.{◌≡◌, true, not, ◌&&◌}
use Rattle.host_port.specs.Calls.{PlainCall}
use Rattle.host_port.specs.Hosts.{HostStep}
use Rattle.reference_step.specs.Listed.{Listed}
use Rattle.reference_step.specs.Rules.{denial, has_places}
use Rattle.reference_step.specs.State.{Reference}
use Rattle.reference_step.specs.Steps.{args_weight, asks_host, is_heavy}
use Rattle.ref_host_calls.specs.Reactions.{HostIsTyped}
use Rattle.reference_host.specs.Typed.{is_free, reaches_host}

module _ {S : Type 0} (h : HostStep S) (r : Reference S) (f : Listed) (c : PlainCall) where
  abbrev pub TypedIfAsked : Type 0
  TypedIfAsked = asks_host h r f c ≡ true → HostIsTyped h r f c

  abbrev pub TypedIfFree : Type 0
  TypedIfFree = (is_free (denial r.setup.policy f c) && asks_host h r f c) ≡ true → HostIsTyped h r f c

  abbrev pub TypedIfRoom : Type 0
  TypedIfRoom = (has_places r.setup.policy r.live f.function.ty.answer && (is_free (denial r.setup.policy f c) && asks_host h r f c)) ≡ true → HostIsTyped h r f c

  abbrev pub TypedIfLight : Type 0
  TypedIfLight = (not (is_heavy h r (args_weight h f c)) && (has_places r.setup.policy r.live f.function.ty.answer && (is_free (denial r.setup.policy f c) && asks_host h r f c))) ≡ true → HostIsTyped h r f c

  abbrev pub TypedIfPassed : Type 0
  TypedIfPassed = reaches_host h r c f ≡ true → HostIsTyped h r f c
