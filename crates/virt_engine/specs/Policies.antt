-- The policy of a command: what its file's text stands for, and the status that a fault of it calls for.
use Rattle.std.specs.Prelude.{ℕ, ◌≤◌, ◌<◌, ◌≡◌, ◌⊎◌, List, true, Option, Some, None, IsSome, Result, Ok, Err, IfErr, IfOk, length, codes, if◌then◌else◌}
use Rattle.std.specs.Str.{is_utf8}
use Rattle.toml.specs.Data.{Members}
use Rattle.toml.specs.Parse.{parse_document}
use Rattle.outside.specs.Fault.{Rose}
use Rattle.outside.specs.Files.{FilesState, Held, Goes}
use Rattle.policy_data.specs.declared.fault.ReadPolicyFault.{ReadPolicyFault}
use Rattle.policy_data.specs.declared.fault.ReadPolicyFault.TheVariants as faults
use Rattle.policy_data.specs.declared.policy.Policy.{Policy}
use Rattle.policy_data.specs.Limits.{KeepsLimits}
use Rattle.policy_toml.specs.Policy.{policy_of, IsWellFormed}
use Rattle.virt_words.specs.declared.policy_fault.PolicyFault.TheVariants.{NotToml, BadKey, BadValue, BadName}
use Rattle.virt_engine.specs.declared.status.Status.{Status}
use Rattle.virt_engine.specs.declared.status.Status.TheVariants.{PolicyRefused, FileFault, OverLimit, NoMemory}
use Rattle.virt_engine.specs.Fetching.{with_input, IsFileFault}

-- A policy has at most that many bytes.
abbrev pub policy_limit : ℕ
policy_limit = 16777216

-- the policy of a document, or its first fault
abbrev pub document_due : Option Members → Result Policy ReadPolicyFault
document_due None = Err faults.NotToml
document_due (Some ms) = policy_of ms

-- The policy that a text stands for, or its first fault: a text is a document in UTF-8 by TOML's grammar.
unfoldable pub policy_due : List ℕ → Result Policy ReadPolicyFault
policy_due text = if is_utf8 text then document_due (parse_document text) else Err faults.NotToml

abbrev pub refused_for : ReadPolicyFault → Status
refused_for faults.NotToml = PolicyRefused NotToml
refused_for (faults.BadKey path) = PolicyRefused (BadKey path)
refused_for (faults.BadValue path) = PolicyRefused (BadValue path)
refused_for (faults.BadName path) = PolicyRefused (BadName path)
refused_for (faults.OverLimit path value) = OverLimit path value
refused_for faults.NoMemory = NoMemory

abbrev pub IsRefusedFor : ReadPolicyFault → Status → Type 0
IsRefusedFor fault status = refused_for fault ≡ status

abbrev pub with_policy : Result Policy ReadPolicyFault → (Policy → Status) → Status
with_policy (Ok policy) next = next policy
with_policy (Err fault) next = refused_for fault

-- the status that the policy's file calls for, or what is due next
abbrev pub policy_verdict : Held → List ℕ → (Policy → Status) → Status
policy_verdict held name next = with_input (held.file name) (codes "policy-bytes") policy_limit name (λ text. with_policy (policy_due text) next)

-- this status is due whatever comes next
abbrev pub IsPolicyVerdict : Held → List ℕ → Status → Type 0
IsPolicyVerdict held name status = (next : Policy → Status) → policy_verdict held name next ≡ status

-- The file's text is a policy.
pub record IsPolicyFile (held : Held) (name : List ℕ) (policy : Policy) : Type 0 where
  pub text : List ℕ
  pub there : held.file name ≡ Some text
  pub short : length text ≤ policy_limit
  pub well_formed : IsWellFormed text policy

-- What reading a policy's text answers.
abbrev pub ReadsPolicy : List ℕ → Result Policy Status → Type 0
ReadsPolicy text (Ok policy) = IsWellFormed text policy × (policy_due text ≡ Ok policy) × KeepsLimits policy
ReadsPolicy text (Err status) = (status ≡ NoMemory) ⊎ ((fault : ReadPolicyFault) × (policy_due text ≡ Err fault) × (refused_for fault ≡ status))

-- The policy's file is within its limit and its text stands for the policy.
pub record HasPolicy (name : List ℕ) (s : FilesState) (policy : Policy) : Type 0 where
  pub text : List ℕ
  pub short : length text ≤ policy_limit
  pub well_formed : IsWellFormed text policy
  pub limits : KeepsLimits policy
  pub there : s.told ≡ true → s.held.file name ≡ Some text
  pub taken : s.told ≡ true → (next : Policy → Status) → policy_verdict s.held name next ≡ next policy

-- The text of the policy's file is refused with this status.
pub record HasRefusedPolicy (name : List ℕ) (s : FilesState) (status : Status) : Type 0 where
  pub text : List ℕ
  pub short : length text ≤ policy_limit
  pub fault : ReadPolicyFault
  pub due : policy_due text ≡ Err fault
  pub refused : refused_for fault ≡ status
  pub there : s.told ≡ true → s.held.file name ≡ Some text

-- a policy has too many bytes, or a number or a length in some policy's text is above its greatest
abbrev pub IsPolicyOver : List ℕ → ℕ → Type 0
IsPolicyOver what value = ((what ≡ codes "policy-bytes") × (policy_limit < value)) ⊎ ((text : List ℕ) × (policy_due text ≡ Err (faults.OverLimit what value)))

-- why reading the policy gave this status
abbrev pub PolicyCause : List ℕ → FilesState → FilesState → Status → Type 0
PolicyCause name s t (FileFault kept) = (kept ≡ name) × Rose s.faults t.faults × (s.told ≡ true → s.steady ≡ true → s.held.file name ≡ None)
PolicyCause name s t NoMemory = Unit {0}
PolicyCause name s t (OverLimit what value) = IsPolicyOver what value × (s.told ≡ true → IsPolicyVerdict s.held name (OverLimit what value))
PolicyCause name s t (PolicyRefused fault) = HasRefusedPolicy name s (PolicyRefused fault) × (s.told ≡ true → IsPolicyVerdict s.held name (PolicyRefused fault))
PolicyCause name s t _ = ⊥

-- What reading the policy's file and its text does: the policy, or why not.
pub record FetchesPolicy (name : List ℕ) (s t : FilesState) (r : Result Policy Status) : Type 0 where
  pub goes : Goes s t
  pub stays : t.held ≡ s.held
  pub policy : IfOk r (HasPolicy name s)
  pub cause : IfErr r (PolicyCause name s t)
  pub quiet : s.told ≡ true → s.steady ≡ true → IsSome (s.held.file name) → (t.faults ≡ s.faults) × IfErr r (λ e. ¬ (IsFileFault e))
