-- The application of a command: its file's bytes, and what they are.
use Rattle.std.specs.Prelude.{ℕ, ◌≤◌, ◌<◌, ◌≡◌, ◌≢◌, ◌⊎◌, List, true, Some, None, IsSome, Result, IfErr, IfOk, length}
use Rattle.outside.specs.Fault.{Rose}
use Rattle.outside.specs.Files.{FilesState, Held, Goes}
use Rattle.comp_grammar.specs.Trees.{Tree}
use Rattle.wasi_match.specs.declared.listed.ListedUse.{ListedUse}
use Rattle.component_judge.specs.Applications.{IsApplication, IsApplicationRefusal}
use Rattle.component_judge.specs.Limits.{bytes_limit, bytes_name}
use Rattle.component_judge.specs.Inputs.{HasWrapped}
use Rattle.component_judge.specs.declared.inputs.Fetched.{Fetched}
use Rattle.component_judge.specs.declared.limits.Purpose.TheVariants.{Virt}
use Rattle.component_judge.specs.declared.refusal.Refusal.{Refusal}
use Rattle.component_judge.specs.declared.refusal.Refusal.TheVariants as refusals
use Rattle.component_judge.specs.declared.unready.Unready.TheVariants as unready
use Rattle.virt_engine.specs.declared.status.Status.{Status}
use Rattle.virt_engine.specs.declared.status.Status.TheVariants.{AppRefused, FileFault, OverLimit, NoMemory}
use Rattle.virt_engine.specs.Fetching.{IsFileFault, unready_as}
use Rattle.virt_engine.specs.RunDue.{IsVerdictBy}

-- An application has at most that many bytes.
abbrev pub app_limit : ℕ
app_limit = bytes_limit Virt

-- ---- the status that an application's file calls for

-- the bytes are refused with this status
abbrev pub Refuses : List ℕ → Status → Type 0
Refuses bytes status = (refusal : Refusal) × (refusal ≢ refusals.NoMemory) × IsApplicationRefusal Virt bytes refusal × (status ≡ unready_as (unready.Refused refusal))

-- this status is due whatever comes next: the file is absent, too long, or refused
abbrev pub IsAppVerdict : Held → List ℕ → Status → Type 0
IsAppVerdict held name status = IsVerdictBy (IsApplicationRefusal Virt) (held.file name) name status

-- The file is an application that may be wrapped.
pub record IsAppFile (held : Held) (name bytes : List ℕ) : Type 0 where
  pub there : held.file name ≡ Some bytes
  pub short : length bytes ≤ app_limit
  pub tree : Tree
  pub uses : List ListedUse
  pub application : IsApplication Virt bytes tree uses

-- ---- what reading it does

-- The application's file is within its limit, and may be wrapped.
pub record HasApp (name : List ℕ) (s : FilesState) (bytes : List ℕ) : Type 0 where
  pub short : length bytes ≤ app_limit
  pub tree : Tree
  pub uses : List ListedUse
  pub application : IsApplication Virt bytes tree uses
  pub there : s.told ≡ true → s.held.file name ≡ Some bytes

-- The file's bytes are refused with this status.
pub record HasRefused (name : List ℕ) (s : FilesState) (status : Status) : Type 0 where
  pub bytes : List ℕ
  pub refused : Refuses bytes status
  pub there : s.told ≡ true → s.held.file name ≡ Some bytes

-- a quantity of an application is above its limit
abbrev pub IsAppOver : List ℕ → ℕ → Type 0
IsAppOver what value = ((what ≡ bytes_name Virt) × (app_limit < value)) ⊎ ((bytes : List ℕ) × Refuses bytes (OverLimit what value))

-- why reading the application gave this status
abbrev pub AppCause : List ℕ → FilesState → FilesState → Status → Type 0
AppCause name s t (FileFault kept) = (kept ≡ name) × Rose s.faults t.faults × (s.told ≡ true → s.steady ≡ true → s.held.file name ≡ None)
AppCause name s t NoMemory = Unit {0}
AppCause name s t (OverLimit what value) = IsAppOver what value × (s.told ≡ true → IsAppVerdict s.held name (OverLimit what value))
AppCause name s t (AppRefused fault) = HasRefused name s (AppRefused fault)
AppCause name s t _ = ⊥

-- What reading the application's file does: an application, or why not.
pub record FetchesApp (name : List ℕ) (s t : FilesState) (r : Result Fetched Status) : Type 0 where
  pub goes : Goes s t
  pub stays : t.held ≡ s.held
  pub app : IfOk r (HasWrapped name s)
  pub cause : IfErr r (AppCause name s t)
  pub quiet : s.told ≡ true → s.steady ≡ true → IsSome (s.held.file name) → (t.faults ≡ s.faults) × IfErr r (λ e. ¬ (IsFileFault e))
