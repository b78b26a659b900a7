-- The policy under which is inspected: what its file's text stands for, and why it is none.
use Rattle.std.specs.Prelude.{ℕ, ◌≤◌, ◌≡◌, ◌⊎◌, List, true, Option, Some, None, IsSome, Result, Ok, Err, IfErr, IfOk, length, codes}
use Rattle.outside.specs.Files.{FilesState, Goes}
use Rattle.policy_data.specs.declared.fault.ReadPolicyFault.{ReadPolicyFault}
use Rattle.policy_data.specs.declared.fault.ReadPolicyFault.TheVariants as faults
use Rattle.policy_data.specs.declared.policy.Policy.{Policy}
use Rattle.policy_toml.specs.Policy.{IsWellFormed, HasFault}
use Rattle.component_judge.specs.declared.unready.Unready.{Unready}
use Rattle.component_judge.specs.declared.unready.Unready.TheVariants as unready
use Rattle.component_judge.specs.declared.refusal.Refusal.TheVariants as refusals
use Rattle.component_judge.specs.Fetching.{Cause, RefusesNone}
use Rattle.virt_words.specs.declared.policy_fault.PolicyFault.TheVariants.{NotToml, BadKey, BadValue, BadName}
use Rattle.inspect_engine.specs.declared.status.Status.{Status}
use Rattle.inspect_engine.specs.declared.status.Status.TheVariants.{PolicyRefused, ComponentRefused, FileFault, OverLimit, NoMemory}

-- A policy has at most that many bytes.
abbrev pub policy_limit : ℕ
policy_limit = 16777216

-- ---- statuses

-- of a file that could not be read, or is refused; no script is read
abbrev pub unready_as : Unready → Status
unready_as (unready.FileFault name) = FileFault name
unready_as (unready.Refused (refusals.Refused fault)) = ComponentRefused fault
unready_as (unready.Refused (refusals.OverLimit what value)) = OverLimit what value
unready_as (unready.Refused (refusals.BadScript path)) = NoMemory
unready_as (unready.Refused refusals.NoMemory) = NoMemory

abbrev pub refused_for : ReadPolicyFault → Status
refused_for faults.NotToml = PolicyRefused NotToml
refused_for (faults.BadKey path) = PolicyRefused (BadKey path)
refused_for (faults.BadValue path) = PolicyRefused (BadValue path)
refused_for (faults.BadName path) = PolicyRefused (BadName path)
refused_for (faults.OverLimit path value) = OverLimit path value
refused_for faults.NoMemory = NoMemory

abbrev pub IsFileFault : Status → Type 0
IsFileFault (FileFault name) = Unit {0}
IsFileFault _ = ⊥

-- ---- what a file says

-- The policy's file is within its limit, and its text stands for the policy.
pub record HasPolicy (name : List ℕ) (s : FilesState) (policy : Policy) : Type 0 where
  pub text : List ℕ
  pub short : length text ≤ policy_limit
  pub well_formed : IsWellFormed text policy
  pub there : s.told ≡ true → s.held.file name ≡ Some text

-- Its text has this fault first.
pub record HasFaultyPolicy (name : List ℕ) (s : FilesState) (fault : ReadPolicyFault) : Type 0 where
  pub text : List ℕ
  pub short : length text ≤ policy_limit
  pub faulty : HasFault text fault
  pub there : s.told ≡ true → s.held.file name ≡ Some text

-- why there is no policy: its file was not read, its text has a fault, or memory ran out
abbrev pub PolicyCause : List ℕ → FilesState → FilesState → Status → Type 0
PolicyCause name s t status =
    ((e : Unready) × (status ≡ unready_as e) × Cause name (codes "policy-bytes") policy_limit RefusesNone s t e)
    ⊎ (((fault : ReadPolicyFault) × (status ≡ refused_for fault) × HasFaultyPolicy name s fault)
    ⊎ (status ≡ NoMemory))

-- ---- none is asked for, or one by the name of its file

abbrev pub HasAsked : Option (List ℕ) → FilesState → Option Policy → Type 0
HasAsked None s policy = policy ≡ None
HasAsked (Some name) s policy = (p : Policy) × (policy ≡ Some p) × HasPolicy name s p

abbrev pub AskedCause : Option (List ℕ) → FilesState → FilesState → Status → Type 0
AskedCause None s t status = ⊥
AskedCause (Some name) s t status = PolicyCause name s t status

-- its file is there
abbrev pub IsThere : Option (List ℕ) → FilesState → Type 0
IsThere None s = Unit {0}
IsThere (Some name) s = IsSome (s.held.file name)

-- What reading the policy that is asked for does.
pub record FetchesAsked (asked : Option (List ℕ)) (s t : FilesState) (r : Result (Option Policy) Status) : Type 0 where
  pub goes : Goes s t
  pub stays : t.held ≡ s.held
  pub policy : IfOk r (HasAsked asked s)
  pub cause : IfErr r (AskedCause asked s t)
  pub quiet : s.told ≡ true → s.steady ≡ true → IsThere asked s → (t.faults ≡ s.faults) × IfErr r (λ e. ¬ (IsFileFault e))

-- ---- for private clauses

-- What a text says.
abbrev pub ReadsPolicy : List ℕ → Result Policy Status → Type 0
ReadsPolicy text (Ok policy) = IsWellFormed text policy
ReadsPolicy text (Err status) = (status ≡ NoMemory) ⊎ ((fault : ReadPolicyFault) × (status ≡ refused_for fault) × HasFault text fault)

-- What reading the policy of a file does.
pub record FetchesPolicy (name : List ℕ) (s t : FilesState) (r : Result Policy Status) : Type 0 where
  pub goes : Goes s t
  pub stays : t.held ≡ s.held
  pub policy : IfOk r (HasPolicy name s)
  pub cause : IfErr r (PolicyCause name s t)
  pub quiet : s.told ≡ true → s.steady ≡ true → IsSome (s.held.file name) → (t.faults ≡ s.faults) × IfErr r (λ e. ¬ (IsFileFault e))
