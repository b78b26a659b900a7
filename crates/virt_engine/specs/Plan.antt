-- What a call of `virt` comes to.
use Rattle.std.specs.Prelude.{ℕ, ◌≤◌, ◌≡◌, ◌≢◌, ◌⊎◌, List, [], true, false, Option, Some, None, Contains, length}
use Rattle.std.specs.Prelude.{Result, Ok, IfErr, IfOk, string_bytes}
use mathlib.Core.Logic.{inl, inr}
use Rattle.outside.specs.Fault.{Rose}
use Rattle.outside.specs.Files.{FilesState, Held, Goes, with_file, no_place}
use Rattle.outside.specs.Sink.{SinkState}
use Rattle.policy_data.specs.declared.policy.Policy.{Policy}
use Rattle.mount_tree.specs.declared.forest.Forest.{Forest}
use Rattle.mount_tree.specs.Runs.{IsAbove}
use Rattle.mount_tree.specs.Building.{trees_due}
use Rattle.comp_grammar.specs.Trees.{Tree}
use Rattle.comp_types.specs.Added.{type_of}
use Rattle.comp_types.specs.Items.{End}
use Rattle.wasi_match.specs.declared.listed.ListedUse.{ListedUse}
use Rattle.component_judge.specs.Applications.{IsApplication}
use Rattle.component_judge.specs.declared.limits.Purpose.TheVariants.{Virt}
use Rattle.virt_engine.specs.declared.status.Status.{Status}
use Rattle.virt_engine.specs.declared.status.Status.TheVariants.{Done, PolicyRefused, AppRefused, FileFault, OverLimit, NoMemory, Usage}
use Rattle.virt_engine.specs.declared.plan.Ready.{Ready}
use Rattle.virt_engine.specs.Command.{Command, command_of}
use Rattle.virt_engine.specs.Line.{done_text, status_text}
use Rattle.virt_engine.specs.Output.{IsOutputOf, imported_by, output_bytes}
use Rattle.virt_engine.specs.Parts.{written_by}
use Rattle.virt_engine.specs.Fetching.{IsFileFault}
use Rattle.virt_engine.specs.Policies.{IsPolicyFile, IsPolicyVerdict, HasPolicy, HasRefusedPolicy, IsPolicyOver}
use Rattle.virt_engine.specs.Apps.{IsAppVerdict, IsAppFile, HasApp, HasRefused, IsAppOver}
use Rattle.virt_engine.specs.PolicyTrees.{trees_verdict, HasTrees}
use Rattle.virt_engine.specs.Report.{Puts, Reports}
use Rattle.virt_engine.specs.Writing.{LeftOf}

-- ---- the definition: the status that files with these contents call for, in the order of refusals

-- after the policy: the application is refused, or the policy's trees decide
abbrev pub IsDueUnder : Held → Command → Policy → Status → Type 0
IsDueUnder held c policy status = IsAppVerdict held c.app status ⊎ ((app : List ℕ) × IsAppFile held c.app app × (trees_verdict held policy Done ≡ status))

-- the policy is refused, or what is after it decides
abbrev pub IsDueOf : Held → Command → Status → Type 0
IsDueOf held c status = IsPolicyVerdict held c.policy status ⊎ ((policy : Policy) × IsPolicyFile held c.policy policy × IsDueUnder held c policy status)

abbrev pub IsDueFor : Held → Option Command → Status → Type 0
IsDueFor held None status = status ≡ Usage
IsDueFor held (Some c) status = IsDueOf held c status

abbrev pub IsDue : Held → List (List ℕ) → Status → Type 0
IsDue held words status = IsDueFor held (command_of words) status

-- ---- the same in words: which calls are accepted

-- The words name a policy within its limit whose text is well formed and whose trees can be made, and within its limit an application
-- that is a valid component, imports listed interfaces alone, and exports nothing that speaks of a resource.
pub record IsAccepted (held : Held) (words : List (List ℕ)) : Type 0 where
  pub command : Command
  pub named : command_of words ≡ Some command
  pub policy : Policy
  pub policy_file : IsPolicyFile held command.policy policy
  pub app : List ℕ
  pub app_file : IsAppFile held command.app app
  pub forest : Forest
  pub trees : (trees_due held policy).answer ≡ Ok forest

-- ---- how an answer relates to the definition

-- The name is one that the order of reading has due, and over steady files the first that is absent: the policy's, the
-- application's, or one that the policy's trees ask for.
abbrev pub DuePolicy : Command → FilesState → List ℕ → Type 0
DuePolicy c s kept = (kept ≡ c.policy) × (s.told ≡ true → s.steady ≡ true → s.held.file c.policy ≡ None)

abbrev pub DueApp : Command → FilesState → List ℕ → Type 0
DueApp c s kept = (policy : Policy) × HasPolicy c.policy s policy × (kept ≡ c.app) × (s.told ≡ true → s.steady ≡ true → s.held.file c.app ≡ None)

abbrev pub DueTree : Command → FilesState → List ℕ → Type 0
DueTree c s kept = (policy : Policy) × HasPolicy c.policy s policy × ((app : List ℕ) × HasApp c.app s app × (s.told ≡ true → Contains (trees_due s.held policy).asks kept)
    × (s.told ≡ true → s.steady ≡ true → IsDueOf s.held c (FileFault kept)))

abbrev pub DueName : Command → FilesState → List ℕ → Type 0
DueName c s kept = DuePolicy c s kept ⊎ DueApp c s kept ⊎ DueTree c s kept

-- The quantity that is named is above its limit: of the policy, of the application, or of the policy's trees.
abbrev pub IsOver : List ℕ → ℕ → Type 0
IsOver what value = IsPolicyOver what value ⊎ IsAppOver what value ⊎ IsAbove what value

-- The policy's text is refused; or a policy and an application were read, and a name that the policy's trees would have is refused.
abbrev pub IsPolicyRefusal : Command → FilesState → Status → Type 0
IsPolicyRefusal c s status = HasRefusedPolicy c.policy s status ⊎ ((policy : Policy) × HasPolicy c.policy s policy × ((app : List ℕ) × HasApp c.app s app))

-- A refusal before any write: a fault that was counted, no memory, or what the definition says.
abbrev pub RefusalOf : Command → FilesState → FilesState → Status → Type 0
RefusalOf c s t (FileFault kept) = Rose s.faults t.faults × DueName c s kept
RefusalOf c s t NoMemory = Unit {0}
RefusalOf c s t (OverLimit what value) = IsOver what value × (s.told ≡ true → IsDueOf s.held c (OverLimit what value))
RefusalOf c s t (PolicyRefused fault) = IsPolicyRefusal c s (PolicyRefused fault) × (s.told ≡ true → IsDueOf s.held c (PolicyRefused fault))
RefusalOf c s t (AppRefused fault) = HasRefused c.app s (AppRefused fault) × (s.told ≡ true → IsDueOf s.held c (AppRefused fault))
RefusalOf c s t _ = ⊥

-- What is known once all was read: all that a call needs from then on, and no name has changed.
pub record IsReady (c : Command) (s : FilesState) (p : Ready) : Type 0 where
  pub policy : Policy
  pub has_policy : HasPolicy c.policy s policy
  pub app : List ℕ
  pub has_app : HasApp c.app s app
  pub has_trees : HasTrees policy s
  -- where the application imports nothing
  pub bytes : (type_of has_app.tree).imports ≡ End → written_by p ≡ output_bytes app (type_of has_app.tree).exports
  pub output : IsOutputOf policy app (written_by p)
  pub done_line : string_bytes p.done_line ≡ done_text (length app) (length (written_by p)) (imported_by policy app (written_by p) output)
  pub fault : p.fault ≡ FileFault c.out
  pub fault_line : string_bytes p.fault_line ≡ status_text (FileFault c.out)

-- no file that is due is absent
abbrev pub NoFileDue : Held → Command → Type 0
NoFileDue held c = (name : List ℕ) → ¬ (IsDueOf held c (FileFault name))

pub record Plans (c : Command) (s t : FilesState) (r : Result Ready Status) : Type 0 where
  pub goes : Goes s t
  pub stays : t.held ≡ s.held
  pub ready : IfOk r (IsReady c s)
  pub refusal : IfErr r (RefusalOf c s t)
  pub quiet : s.told ≡ true → s.steady ≡ true → NoFileDue s.held c → (t.faults ≡ s.faults) × IfErr r (λ e. ¬ (IsFileFault e))

-- What writing the output and putting its text does: both were due, or the write failed and its fault is reported.
pub record Finishes (name : List ℕ) (p : Ready) (s t : FilesState) (k l : SinkState) (result : Status) : Type 0 where
  pub goes : Goes s t
  pub end : ((s.told ≡ true → t.held ≡ with_file s.held name (Some (written_by p))) × Puts Done (string_bytes p.done_line) k l result)
      ⊎ (Rose s.faults t.faults × (s.told ≡ true → LeftOf name (written_by p) s.held t.held) × Puts p.fault (string_bytes p.fault_line) k l result)
  pub quiet : s.told ≡ true → s.steady ≡ true → no_place s.held name ≡ false → length (written_by p) ≤ s.held.room name → t.faults ≡ s.faults

-- ---- the whole call

-- What was read is to be accepted; the output is written, or the write failed and left a part of it.
pub record Wrote (c : Command) (s : FilesState) : Type 0 where
  pub policy : Policy
  pub has_policy : HasPolicy c.policy s policy
  pub app : List ℕ
  pub has_app : HasApp c.app s app
  pub has_trees : HasTrees policy s
  pub bytes : List ℕ
  pub output : IsOutputOf policy app bytes

-- the functions that the output imports
abbrev pub imported_in : (c : Command) (s : FilesState) → Wrote c s → ℕ
imported_in c s w = imported_by w.policy w.app w.bytes w.output

-- A name was not read, or the output was not written: it is as it was, or a part of the output is there.
abbrev pub IsFaultyName : Command → FilesState → FilesState → List ℕ → Type 0
IsFaultyName c s t kept = ((t.held ≡ s.held) × DueName c s kept) ⊎ ((kept ≡ c.out) × ((w : Wrote c s) × (s.told ≡ true → LeftOf c.out w.bytes s.held t.held)))

-- Why a status was due with this text, and what has become of the files.
abbrev pub DueOf : List (List ℕ) → FilesState → FilesState → Status → List ℕ → Type 0
DueOf words s t Done text = (c : Command) × (command_of words ≡ Some c) × ((w : Wrote c s) × (text ≡ done_text (length w.app) (length w.bytes) (imported_in c s w))
    × (s.told ≡ true → t.held ≡ with_file s.held c.out (Some w.bytes)))
DueOf words s t (FileFault kept) text = (c : Command) × (command_of words ≡ Some c) × (text ≡ status_text (FileFault kept)) × Rose s.faults t.faults
    × IsFaultyName c s t kept
DueOf words s t NoMemory text = (t.held ≡ s.held) × (text ≡ [])
DueOf words s t (OverLimit what value) text = (t.held ≡ s.held) × (text ≡ status_text (OverLimit what value))
    × ((c : Command) × (command_of words ≡ Some c) × IsOver what value) × (s.told ≡ true → IsDue s.held words (OverLimit what value))
DueOf words s t (PolicyRefused fault) text = (t.held ≡ s.held) × (text ≡ status_text (PolicyRefused fault))
    × ((c : Command) × (command_of words ≡ Some c) × IsPolicyRefusal c s (PolicyRefused fault)) × (s.told ≡ true → IsDue s.held words (PolicyRefused fault))
DueOf words s t (AppRefused fault) text = (t.held ≡ s.held) × (text ≡ status_text (AppRefused fault))
    × ((c : Command) × (command_of words ≡ Some c) × HasRefused c.app s (AppRefused fault)) × (s.told ≡ true → IsDue s.held words (AppRefused fault))
DueOf words s t Usage text = (t ≡ s) × (text ≡ status_text Usage) × (command_of words ≡ None)
DueOf words s t _ text = ⊥

-- how long the output is that was written, or was to be
abbrev pub length_at : (c : Command) (s t : FilesState) (kept : List ℕ) → IsFaultyName c s t kept → ℕ
length_at c s t kept (inl unread) = 0
length_at c s t kept (inr left) = length left.1.0.bytes

abbrev pub length_due : (words : List (List ℕ)) (s t : FilesState) (due : Status) (text : List ℕ) → DueOf words s t due text → ℕ
length_due words s t Done text d = length d.2.0.bytes
length_due words s t (FileFault kept) text d = length_at d.0 s t kept d.4
length_due words s t _ text d = 0

-- The output of an application has room: where the application imports nothing, the one output that it has; else the one of this length
-- that was written, or was to be.
pub record HasRoom (held : Held) (out app : List ℕ) (tree : Tree) (len : ℕ) : Type 0 where
  pub alone : (type_of tree).imports ≡ End → length (output_bytes app (type_of tree).exports) ≤ held.room out
  pub beside : (type_of tree).imports ≢ End → len ≤ held.room out

-- The output has a place and room, where one is due.
abbrev pub OutputFits : Held → Command → ℕ → Type 0
OutputFits held c len = (no_place held c.out ≡ false) × ((app : List ℕ) → held.file c.app ≡ Some app → (tree : Tree) → (uses : List ListedUse) → IsApplication Virt app tree uses → HasRoom held c.out app tree len)

-- Over steady files no fault is provoked: each file that is due is there, and the output has its place and room.
abbrev pub FilesQuiet : List (List ℕ) → FilesState → FilesState → ℕ → Type 0
FilesQuiet words s t len = s.told ≡ true → s.steady ≡ true → ((name : List ℕ) → ¬ (IsDue s.held words (FileFault name)))
    → ((c : Command) → command_of words ≡ Some c → IsDueOf s.held c Done → OutputFits s.held c len) → t.faults ≡ s.faults

pub record Ran (words : List (List ℕ)) (s t : FilesState) (k l : SinkState) (result : Status) : Type 0 where
  pub goes : Goes s t
  pub due : Status
  pub text : List ℕ
  pub files : DueOf words s t due text
  pub report : Reports due text k l result
  -- where memory ran out nothing was put, and no file has changed
  pub kept : result ≡ NoMemory → (l ≡ k) × (t.held ≡ s.held)
  pub quiet : FilesQuiet words s t (length_due words s t due text files)

-- the same for a command that is named
abbrev pub RanCommand : Command → FilesState → FilesState → SinkState → SinkState → Status → Type 0
RanCommand c s t k l result = (words : List (List ℕ)) → command_of words ≡ Some c → Ran words s t k l result

-- ---- what follows for every caller

-- Where no count rose, the status is the one that the contents call for, or memory ran out.
abbrev pub Completes : List (List ℕ) → FilesState → FilesState → SinkState → SinkState → Status → Type 0
Completes words s t k l result = s.told ≡ true → ¬ (Rose s.faults t.faults) → ¬ (Rose k.faults l.faults)
    → IsDue s.held words result ⊎ (result ≡ NoMemory)

-- Where the call is to be accepted and no count rose, it is done, or memory ran out.
abbrev pub Accepts : List (List ℕ) → FilesState → FilesState → SinkState → SinkState → Status → Type 0
Accepts words s t k l result = s.told ≡ true → IsAccepted s.held words → ¬ (Rose s.faults t.faults) → ¬ (Rose k.faults l.faults)
    → (result ≡ Done) ⊎ (result ≡ NoMemory)

-- What Done says: the call was to be accepted, the file named OUT holds an output of the application, and all else stays.
pub record Delivers (words : List (List ℕ)) (s t : FilesState) : Type 0 where
  pub accepted : IsAccepted s.held words
  pub bytes : List ℕ
  pub output : IsOutputOf accepted.policy accepted.app bytes
  pub written : t.held ≡ with_file s.held accepted.command.out (Some bytes)
