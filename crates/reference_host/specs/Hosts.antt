-- The reference host over a host that is asked.
use Rattle.std.specs.Prelude.{Bool, List}
use Rattle.policy_data.specs.declared.policy.Policy.{Policy}
use Rattle.tree_table.specs.declared.entries.NamedTree.{NamedTree}
use Rattle.wasi_match.specs.declared.listed.ListedUse.{ListedUse}
use Rattle.host_port.specs.Hosts.{Kept}
use Rattle.reference_step.specs.State.{Reference, Setup}
use Rattle.ref_answers.specs.Versions.{version_in}
use Rattle.reference_host.specs.declared.state.State.{State}
use Rattle.reference_host.specs.States.{reference_of}
use Rattle.reference_host.specs.Versions.{versions_of}

-- the reference host's own state, the host that is asked, and whether memory was wanting
pub record Hosting (H : Type 0) : Type 0 where
  pub state : State
  pub inner : H
  pub lost : Bool

-- the state, and what was seen so far of the host that is asked
abbrev pub kept_by : {H S : Type 0} → (H → Kept S) → Hosting H → Kept (Reference S)
kept_by kept r = record { state = reference_of r.state (kept r.inner).state; seen = (kept r.inner).seen }

-- the setup of a policy, its trees, and what a listed component imports
abbrev pub setup_for : Policy → List NamedTree → List ListedUse → Setup
setup_for policy trees uses = record { policy = policy; trees = trees; version = version_in (versions_of uses) }
