-- What code does to the live handles and to the host that is asked, as a reaction of the definition.
use Rattle.std.specs.Prelude.{◌≡◌, List, ◌++◌}
use Rattle.policy_data.specs.declared.policy.Policy.{Policy}
use Rattle.tree_table.specs.Tables.{Forest}
use Rattle.host_port.specs.Calls.{PlainAnswer, PlainCall, PlainObservation}
use Rattle.host_port.specs.Hosts.{HostStep, IsAnswerTo, Reaction}
use Rattle.reference_step.specs.Listed.{Listed}
use Rattle.reference_step.specs.State.{Reference}
use Rattle.reference_step.specs.Steps.{to_host}
use Rattle.ref_rules.specs.Lives.{LiveTable}
use Rattle.ref_answers.specs.Seen.{live_in}

-- a state of the reference host with this policy, these live handles and this state of the host that is asked
abbrev pub state_at : {S : Type 0} → Reference S → Forest → Policy → LiveTable → S → Reference S
state_at r f policy live inner = record r { setup = record r.setup { policy = policy }; live = live_in f live.handles; inner = inner }

-- the answer, the state then, and what is seen of the host that was asked
pub record IsReaction {S : Type 0} (reaction : Reaction (Reference S)) (reply : PlainAnswer) (state : Reference S) (before after : List PlainObservation) : Type 0 where
  pub answer : reply ≡ reaction.answer
  pub next : state ≡ reaction.next
  pub seen : after ≡ before ++ reaction.seen

-- what the host that is asked answers, where a call is handed on, has the call's result type
abbrev pub HostIsTyped : {S : Type 0} → HostStep S → Reference S → Listed → PlainCall → Type 0
HostIsTyped h r f c = IsAnswerTo c.answer (h.call r.inner (to_host h r f c)).answer
