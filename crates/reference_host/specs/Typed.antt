-- The answers of the reference host have the result types of their calls.
use Rattle.std.specs.Prelude.{◌≡◌, Bool, true, false, not, ◌&&◌, Some}
use Rattle.host_port.specs.Calls.{PlainCall}
use Rattle.host_port.specs.Hosts.{HostStep, IsAnswerTo, IsTyped}
use Rattle.reference_step.specs.Listed.{Listed, listed_function}
use Rattle.reference_step.specs.Rules.{passes, has_places, Denial, NotDenied, ByPolicy, ByRules, denial}
use Rattle.reference_step.specs.State.{Reference, view_of}
use Rattle.reference_step.specs.Steps.{reference_step, is_heavy, args_weight, asks_host, to_host}
use Rattle.reference_host.specs.Sound.{IsSound}

abbrev pub is_free : Denial → Bool
is_free NotDenied = true
is_free ByPolicy = false
is_free ByRules = false

module _ {S : Type 0} (h : HostStep S) where
  -- whether a call of a listed function passes each test, so that the host is asked
  abbrev pub reaches_host : Reference S → PlainCall → Listed → Bool
  reaches_host r c f =
      passes r.live f c && (not (is_heavy h r (args_weight h f c)) && (has_places r.setup.policy r.live f.function.ty.answer && (is_free (denial r.setup.policy f c) && asks_host h r f c)))

  -- where the host is asked, what it answers has the call's result type
  abbrev pub AsksTyped : Reference S → PlainCall → Type 0
  AsksTyped r c = (f : Listed) → listed_function r.setup.version c.interface c.function ≡ Some f → reaches_host r c f ≡ true → IsAnswerTo c.answer (h.call r.inner (to_host h r f c)).answer

  abbrev pub AnswersAreTypedWhereAsked : Type 0
  AnswersAreTypedWhereAsked = (r : Reference S) (c : PlainCall) → IsSound (view_of r) → AsksTyped r c → IsAnswerTo c.answer ((reference_step h).call r c).answer

  -- the same over a host whose answers all have their types
  abbrev pub AnswersAreTyped : Type 0
  AnswersAreTyped = IsTyped h → (r : Reference S) (c : PlainCall) → IsSound (view_of r) → IsAnswerTo c.answer ((reference_step h).call r c).answer
