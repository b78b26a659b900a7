-- Which calls of the reference host reach the host that it asks. (This project's own.)
use Rattle.std.specs.Prelude.{◌≡◌, ◌≢◌, ◌⊎◌, [], true, Some}
use Rattle.host_port.specs.Calls.{PlainCall}
use Rattle.host_port.specs.Hosts.{HostStep}
use Rattle.reference_step.specs.Access.{is_hosted, access}
use Rattle.reference_step.specs.Listed.{Listed, listed_function}
use Rattle.reference_step.specs.Rules.{passes, given, NotDenied, denial}
use Rattle.reference_step.specs.State.{Reference}
use Rattle.reference_step.specs.Steps.{are_host, reference_step}

-- The reference host answers the call by itself: nothing is seen of the host that it asks, whose state stays; and over every other host
-- it does the same.
pub record IsOwn {S : Type 0} (h : HostStep S) (r : Reference S) (c : PlainCall) : Type 0 where
  pub silent : ((reference_step h).call r c).seen ≡ []
  pub untouched : ((reference_step h).call r c).next.inner ≡ r.inner
  pub alone : (g : HostStep S) → (reference_step g).call r c ≡ (reference_step h).call r c

-- The policy lets the call through: it leaves the function to the host, and no rule refuses the call; the arguments have the listed
-- types, and each handle that is given is live, of its kind, and the host's.
pub record IsLetThrough {S : Type 0} (h : HostStep S) (r : Reference S) (c : PlainCall) : Type 0 where
  pub function : Listed
  pub listed : listed_function r.setup.version c.interface c.function ≡ Some function
  pub passes_so : passes r.live function c ≡ true
  pub undenied : denial r.setup.policy function c ≡ NotDenied
  pub hosted : is_hosted (access r.setup.policy function.interface function.function.name) ≡ true
  pub handles : are_host h r.live (given function c) ≡ true

-- each call is one or the other
abbrev pub OwnOrLetThrough : {S : Type 0} → HostStep S → Type 0
OwnOrLetThrough {S} h = (r : Reference S) (c : PlainCall) → IsOwn h r c ⊎ IsLetThrough h r c

-- the reference host answers it by itself, and is as it was
abbrev pub ChangesNothing : {S : Type 0} (h : HostStep S) (r : Reference S) (c : PlainCall) → Type 0
ChangesNothing {S} h r c = IsOwn h r c × (((reference_step h).call r c).next ≡ r)

-- what the policy denies, or its rules refuse, changes nothing
abbrev pub DeniedChangeNothing : {S : Type 0} → HostStep S → Type 0
DeniedChangeNothing {S} h = (r : Reference S) (c : PlainCall) (f : Listed) → listed_function r.setup.version c.interface c.function ≡ Some f → denial r.setup.policy f c ≢ NotDenied → ChangesNothing h r c
