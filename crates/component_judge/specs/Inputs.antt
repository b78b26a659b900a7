-- The files of a run: what they have to hold, and why others are refused.
use Rattle.std.specs.Prelude.{ℕ, ◌≡◌, ◌≤◌, ◌⊎◌, List, true, Some, IsSome, Result, Ok, Err, IfErr, IfOk, length, codes}
use Rattle.outside.specs.Files.{FilesState, Held, Goes}
use Rattle.comp_types.specs.Items.{Entries}
use Rattle.comp_grammar.specs.Trees.{Tree}
use Rattle.component_judge.specs.declared.script.Scripted.{Scripted}
use Rattle.component_judge.specs.declared.refusal.Refusal.{Refusal}
use Rattle.component_judge.specs.declared.component.Judged.{Judged}
use Rattle.component_judge.specs.declared.application.Application.{Application}
use Rattle.component_judge.specs.declared.limits.Purpose.TheVariants.{Virt, Run}
use Rattle.component_judge.specs.Limits.{bytes_limit, bytes_name, script_limit}
use Rattle.component_judge.specs.Components.{IsRefusal, IsRunnable, Judges}
use Rattle.component_judge.specs.Applications.{IsApplication, IsApplicationRefusal, JudgesApplication}
use Rattle.wasi_match.specs.declared.listed.Listed.{Listed}
use Rattle.wasi_match.specs.declared.listed.ListedUse.{ListedUse}
use Rattle.component_judge.specs.Scripts.{JudgesScript}
use Rattle.host_script.specs.Script.{AreTyped, exports_seen}
use Rattle.component_judge.specs.Callable.{callable}
use Rattle.component_judge.specs.declared.unready.Unready.{Unready}
use Rattle.component_judge.specs.declared.inputs.Fetched.{Fetched}
use Rattle.component_judge.specs.declared.inputs.Inputs.{Inputs}
use Rattle.component_judge.specs.declared.inputs.ListedInputs.{ListedInputs}
use Rattle.component_judge.specs.Fetching.{IsFileFault, Cause, FetchesAs}

abbrev pub RefusesScript : Entries → List ℕ → Refusal → Type 0
RefusesScript exports bytes refusal = JudgesScript exports bytes (Err refusal)

-- The file holds a component that can be run.
pub record HasComponent (name : List ℕ) (s : FilesState) (judged : Judged) : Type 0 where
  pub bytes : List ℕ
  pub judges : Judges bytes (Ok judged)
  pub there : s.told ≡ true → s.held.file name ≡ Some bytes

-- The file holds a listed component, which can be run without a policy as well.
pub record HasApplication (name : List ℕ) (s : FilesState) (judged : Judged) (listed : Listed) : Type 0 where
  pub bytes : List ℕ
  pub judges : JudgesApplication Run bytes (Ok (record { judged = judged; listed = listed }))
  pub runs : Judges bytes (Ok judged)
  pub there : s.told ≡ true → s.held.file name ≡ Some bytes

-- The file holds a listed component that is to be wrapped.
pub record HasWrapped (name : List ℕ) (s : FilesState) (fetched : Fetched) : Type 0 where
  pub judges : JudgesApplication Virt fetched.bytes.items (Ok fetched.application)
  pub short : length fetched.bytes.items ≤ bytes_limit Virt
  pub there : s.told ≡ true → s.held.file name ≡ Some fetched.bytes.items

-- The file holds a script for the component, with whose functions it is kept.
pub record HasScript (exports : Entries) (name : List ℕ) (s : FilesState) (scripted : Scripted) : Type 0 where
  pub bytes : List ℕ
  pub judges : JudgesScript exports bytes (Ok scripted)
  pub typed : AreTyped (callable exports) scripted.script.calls
  pub functions : exports_seen scripted.functions ≡ callable exports
  pub there : s.told ≡ true → s.held.file name ≡ Some bytes

abbrev pub ComponentCause : List ℕ → FilesState → FilesState → Unready → Type 0
ComponentCause name s t e = Cause name (bytes_name Run) (bytes_limit Run) IsRefusal s t e

abbrev pub ApplicationCause : List ℕ → FilesState → FilesState → Unready → Type 0
ApplicationCause name s t e = Cause name (bytes_name Run) (bytes_limit Run) (IsApplicationRefusal Run) s t e

abbrev pub ScriptCause : Entries → List ℕ → FilesState → FilesState → Unready → Type 0
ScriptCause exports name s t e = Cause name (codes "script-bytes") script_limit (RefusesScript exports) s t e

-- Both files do.
pub record AreReady (component script : List ℕ) (s : FilesState) (inputs : Inputs) : Type 0 where
  pub runnable : HasComponent component s inputs.judged
  pub scripted : HasScript inputs.judged.ty.exports script s inputs.scripted

pub record AreListedReady (component script : List ℕ) (s : FilesState) (listed : ListedInputs) : Type 0 where
  pub application : HasApplication component s listed.inputs.judged listed.listed
  pub scripted : HasScript listed.inputs.judged.ty.exports script s listed.inputs.scripted

-- the component does not, or it does and the script does not
abbrev pub InputsCause : List ℕ → List ℕ → FilesState → FilesState → Unready → Type 0
InputsCause component script s t e = ComponentCause component s t e
    ⊎ ((judged : Judged) × HasComponent component s judged × ScriptCause judged.ty.exports script s t e)

abbrev pub ListedCause : List ℕ → List ℕ → FilesState → FilesState → Unready → Type 0
ListedCause component script s t e = ApplicationCause component s t e
    ⊎ ((judged : Judged) × (listed : Listed) × HasApplication component s judged listed × ScriptCause judged.ty.exports script s t e)

-- which bytes spell a component that will do
abbrev pub Fitting : Type 1
Fitting = List ℕ → Tree → Type 0

abbrev pub IsListedBy : List ℕ → Tree → Type 0
IsListedBy bytes tree = (uses : List ListedUse) × IsApplication Run bytes tree uses

-- each file that is due is there
pub record AreThere (Fits : Fitting) (component script : List ℕ) (held : Held) : Type 0 where
  pub first : IsSome (held.file component)
  pub second : (bytes : List ℕ) (tree : Tree) → held.file component ≡ Some bytes → Fits bytes tree → IsSome (held.file script)

-- What reading both files does.
pub record FetchesBoth {A : Type 0} (Ready : A → Type 0) (Why : Unready → Type 0) (Fits : Fitting) (component script : List ℕ) (s t : FilesState) (r : Result A Unready) : Type 0 where
  pub goes : Goes s t
  pub stays : t.held ≡ s.held
  pub ready : IfOk r Ready
  pub cause : IfErr r Why
  -- over steady files no fault is provoked
  pub quiet : s.told ≡ true → s.steady ≡ true → AreThere Fits component script s.held → (t.faults ≡ s.faults) × IfErr r (λ e. ¬ (IsFileFault e))

abbrev pub FetchesInputs : List ℕ → List ℕ → FilesState → FilesState → Result Inputs Unready → Type 0
FetchesInputs component script s t r = FetchesBoth (AreReady component script s) (InputsCause component script s t) IsRunnable component script s t r

abbrev pub FetchesListed : List ℕ → List ℕ → FilesState → FilesState → Result ListedInputs Unready → Type 0
FetchesListed component script s t r = FetchesBoth (AreListedReady component script s) (ListedCause component script s t) IsListedBy component script s t r

-- What reading an application that is to be wrapped does.
abbrev pub FetchesWrapped : List ℕ → FilesState → FilesState → Result Fetched Unready → Type 0
FetchesWrapped name s t r = FetchesAs name (bytes_name Virt) (bytes_limit Virt) (IsApplicationRefusal Virt) (HasWrapped name s) s t r

-- ---- for private clauses

abbrev pub FetchesComponent : List ℕ → FilesState → FilesState → Result Judged Unready → Type 0
FetchesComponent name s t r = FetchesAs name (bytes_name Run) (bytes_limit Run) IsRefusal (HasComponent name s) s t r

abbrev pub FetchesApplication : List ℕ → FilesState → FilesState → Result Application Unready → Type 0
FetchesApplication name s t r = FetchesAs name (bytes_name Run) (bytes_limit Run) (IsApplicationRefusal Run) (λ a. HasApplication name s a.judged a.listed) s t r

abbrev pub FetchesScript : Entries → List ℕ → FilesState → FilesState → Result Scripted Unready → Type 0
FetchesScript exports name s t r = FetchesAs name (codes "script-bytes") script_limit (RefusesScript exports) (HasScript exports name s) s t r
