-- What code does at the drop of a handle, as the definition has it.
use Rattle.std.specs.Prelude.{◌≡◌, List, ◌++◌}
use Rattle.wit_types.specs.Plain.{Name}
use Rattle.tree_table.specs.Tables.{Forest}
use Rattle.host_port.specs.Calls.{PlainObservation}
use Rattle.host_port.specs.Hosts.{Loss}
use Rattle.reference_step.specs.State.{Reference}
use Rattle.ref_answers.specs.Versions.{version_in}
use Rattle.ref_rules.specs.Lives.{LiveTable}
use Rattle.ref_answers.specs.Seen.{live_in}

-- a state of the reference host with interfaces listed under these versions, these live handles and this state of the host that is asked
abbrev pub listed_at : {S : Type 0} → Reference S → Forest → List Name → LiveTable → S → Reference S
listed_at r f versions live inner = record r { setup = record r.setup { version = version_in versions }; live = live_in f live.handles; inner = inner }

-- the state then, and what is seen of the host that is asked
pub record IsLoss {S : Type 0} (loss : Loss (Reference S)) (state : Reference S) (before after : List PlainObservation) : Type 0 where
  pub next : state ≡ loss.next
  pub seen : after ≡ before ++ loss.seen
