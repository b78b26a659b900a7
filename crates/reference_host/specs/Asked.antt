-- Calls of listed functions that passed the first tests.
use Rattle.std.specs.Prelude.{◌≡◌, Some, true}
use Rattle.wit_types.specs.HasType.{are_of}
use Rattle.host_port.specs.Calls.{PlainCall}
use Rattle.reference_step.specs.Listed.{Listed, listed_function}
use Rattle.reference_step.specs.Rules.{has_places}
use Rattle.ref_answers.specs.Seen.{live_in}
use Rattle.ref_answers.specs.Versions.{version_in}
use Rattle.ref_host_calls.specs.declared.request.Request.{Request}
use Rattle.ref_host_calls.specs.Requests.{IsNoted, listed_of, call_of}
use Rattle.reference_host.specs.declared.state_kept.Setting.{Setting}
use Rattle.reference_host.specs.declared.state_kept.Holding.{Holding}

-- the function is the one that the call names
abbrev pub IsNamed : Setting → Listed → PlainCall → Type 0
IsNamed g f c = listed_function (version_in g.listed) c.interface c.function ≡ Some f

-- the call is one of a listed function under this policy, with arguments of its types, which were noted
pub record IsAsked (g : Setting) (q : Request) : Type 0 where
  pub policy : q.policy.now ≡ g.policy
  pub named : IsNamed g (listed_of q) (call_of q)
  pub typed : are_of (listed_of q).function.ty.params (call_of q).args ≡ true
  pub noted : IsNoted q

-- there is room for the handles of its result
abbrev pub HasRoom : Setting → Holding → Request → Type 0
HasRoom g h q = has_places g.policy (live_in g.table h.live.handles) (listed_of q).function.ty.answer ≡ true
