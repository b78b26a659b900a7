-- What live handles stand for under a policy. (This project's own.)
use Rattle.std.specs.Prelude.{◌≡◌, ℕ, Bool, true, false, List, Option, Some, is_some}
use Rattle.std.specs.List.{list_all}
use Rattle.wit_types.specs.PlainValue.{PlainValue}
use Rattle.policy_data.specs.declared.policy.Policy.{Policy}
use Rattle.host_port.specs.declared.call.Resource.{Resource}
use Rattle.host_port.specs.Calls.{PlainCall}
use Rattle.host_port.specs.Hosts.{HostStep}
use Rattle.reference_step.specs.Access.{can_be_host}
use Rattle.reference_step.specs.Atoms.{handles, result_atoms}
use Rattle.reference_step.specs.Handles.{Content, Host, Node, ScratchRoot, ScratchEntries, ScratchFile, ScratchIn, ScratchOut, LiveHandle, handle_at, is_host, descriptor}
use Rattle.reference_step.specs.State.{Setup, Reference, opening}
use Rattle.reference_step.specs.Steps.{reference_step}
use Rattle.reference_laws.specs.Closed.{Act, after, begun}
use Rattle.reference_laws.specs.Reaching.{IsLetThrough}

-- whether this is something of the scratch folder
abbrev pub is_scratch : Content → Bool
is_scratch ScratchRoot = true
is_scratch (ScratchEntries _) = true
is_scratch (ScratchFile _ _) = true
is_scratch (ScratchIn _ _) = true
is_scratch (ScratchOut _ _) = true
is_scratch _ = false

-- whether this is a file or a folder
abbrev pub is_file : Content → Bool
is_file (Host _) = true
is_file (Node _ _) = true
is_file ScratchRoot = true
is_file (ScratchFile _ _) = true
is_file _ = false

-- what a live handle may stand for under the policy
pub record MayStand (p : Policy) (h : LiveHandle) : Type 0 where
  -- a handle of the host is of a kind that can be the host's
  pub host : is_host h.content ≡ true → can_be_host p h.kind ≡ true
  -- something of the scratch folder is there only where the policy has that folder
  pub scratch : is_scratch h.content ≡ true → is_some p.fs_scratch ≡ true
  -- a descriptor is a file or a folder
  pub file : h.kind ≡ descriptor → is_file h.content ≡ true

-- each live handle stands for what it may
abbrev pub AllMayStand : {S : Type 0} → Reference S → Type 0
AllMayStand r = (id : ℕ) (h : LiveHandle) → handle_at r.live id ≡ Some h → MayStand r.setup.policy h

-- So it is at first, and each step keeps it, over every host. So it is whatever was done.
pub record HandlesStandAsTheyMay {S : Type 0} (h : HostStep S) : Type 0 where
  pub first : (setup : Setup) (inner : S) → AllMayStand (opening setup inner)
  pub called : (r : Reference S) (c : PlainCall) → AllMayStand r → AllMayStand ((reference_step h).call r c).next
  pub dropped : (r : Reference S) (resource : Resource) (id : ℕ) → AllMayStand r → AllMayStand ((reference_step h).drop r resource id).next
  pub reached : (setup : Setup) (inner : S) (acts : List Act) → AllMayStand (after (reference_step h) (begun setup inner) acts).state

-- What the host answers to a call that is let through, whatever it is, has handles only of kinds that can be the host's.
abbrev pub AnswersHoldTheHostsKinds : {S : Type 0} → HostStep S → Type 0
AnswersHoldTheHostsKinds {S} h =
    (r : Reference S) (c : PlainCall) → AllMayStand r → (through : IsLetThrough h r c) (v : Option PlainValue)
    → list_all (λ g. can_be_host r.setup.policy g.0) (handles (result_atoms through.function.function.ty.answer v)) ≡ true
