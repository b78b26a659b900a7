-- What a call of `plug` comes to.
use Rattle.std.specs.Prelude.{ℕ, ◌≡◌, ◌≤◌, ◌⊎◌, List, true, false, Some, Result, Ok, IfErr, IfOk, length, string_bytes}
use mathlib.Core.Logic.{inl, inr}
use Rattle.outside.specs.Fault.{Rose}
use Rattle.outside.specs.Files.{FilesState, Held, Goes, with_file, no_place}
use Rattle.outside.specs.Sink.{SinkState}
use Rattle.policy_data.specs.declared.policy.Policy.{Policy}
use Rattle.mount_tree.specs.declared.forest.Forest.{Forest}
use Rattle.mount_tree.specs.Building.{trees_due}
use Rattle.component_judge.specs.Fetching.{Cause}
use Rattle.component_judge.specs.Limits.{bytes_limit, bytes_name}
use Rattle.component_judge.specs.declared.inputs.Fetched.{Fetched}
use Rattle.component_judge.specs.declared.limits.Purpose.TheVariants.{Virt}
use Rattle.component_judge.specs.declared.unready.Unready.{Unready}
use Rattle.virt_engine.specs.declared.plan.Ready.{Ready}
use Rattle.virt_engine.specs.declared.status.PlugFault.{PlugFault}
use Rattle.virt_engine.specs.declared.status.Status.{Status}
use Rattle.virt_engine.specs.declared.status.Status.TheVariants.{Done, FileFault, NoMemory, PlugRefused}
use Rattle.virt_engine.specs.Command.{PlugCommand}
use Rattle.virt_engine.specs.Fetching.{unready_as, IsFileFault}
use Rattle.virt_engine.specs.Line.{done_text, status_text}
use Rattle.virt_engine.specs.Pairs.{Read, IsRead, IsTooLarge, Pair, Refuses, IsPair, pair_verdict, IsPairVerdict, ArePair, IsPluggedOutput, plugged_count}
use Rattle.virt_engine.specs.Parted.{IsMadeOf}
use Rattle.virt_engine.specs.Parts.{written_by}
use Rattle.virt_engine.specs.Policies.{IsPolicyFile, IsPolicyVerdict, HasPolicy, PolicyCause}
use Rattle.virt_engine.specs.PolicyTrees.{trees_verdict, HasTrees, TreesCause}
use Rattle.virt_engine.specs.Report.{Reports}
use Rattle.virt_engine.specs.Writing.{LeftOf}

-- ---- the definition: the status that files with these contents call for, in the order of refusals

-- after the policy: the components are refused, or the policy's trees decide
abbrev pub IsPlugDueUnder : Held → PlugCommand → Policy → Status → Type 0
IsPlugDueUnder held c policy status = IsPairVerdict held c.first c.second status ⊎ (ArePair held c.first c.second × (trees_verdict held policy Done ≡ status))

-- the policy is refused, or what is after it decides
abbrev pub IsPlugDue : Held → PlugCommand → Status → Type 0
IsPlugDue held c status = IsPolicyVerdict held c.policy status ⊎ ((policy : Policy) × IsPolicyFile held c.policy policy × IsPlugDueUnder held c policy status)

-- no file that is due is absent
abbrev pub NoPlugFileDue : Held → PlugCommand → Type 0
NoPlugFileDue held c = (name : List ℕ) → ¬ (IsPlugDue held c (FileFault name))

-- The same in words: a policy within its limit whose text is well formed and whose trees can be made, and two components that can be made
-- one.
pub record IsPlugAccepted (held : Held) (c : PlugCommand) : Type 0 where
  pub policy : Policy
  pub policy_file : IsPolicyFile held c.policy policy
  pub components : ArePair held c.first c.second
  pub forest : Forest
  pub trees : (trees_due held policy).answer ≡ Ok forest

-- ---- what was read

-- The file holds what is read so.
pub record HasRead (name : List ℕ) (s : FilesState) (read : Read) : Type 0 where
  pub bytes : List ℕ
  pub is_read : IsRead bytes read
  pub there : s.told ≡ true → s.held.file name ≡ Some bytes

-- The files hold two components that can be made one.
pub record HasPair (first second : List ℕ) (s : FilesState) : Type 0 where
  pub a : List ℕ
  pub b : List ℕ
  pub pair : Pair
  pub is_pair : IsPair a b pair
  pub first_there : s.told ≡ true → s.held.file first ≡ Some a
  pub second_there : s.told ≡ true → s.held.file second ≡ Some b

-- ---- why a status was due before any write

-- a file is absent or too large
abbrev pub PartCause : List ℕ → FilesState → FilesState → Status → Type 0
PartCause name s t status = (why : Unready) × Cause name (bytes_name Virt) (bytes_limit Virt) IsTooLarge s t why × (status ≡ unready_as why)

-- Both files were read, and hold what can't be made one.
pub record HasRefusedPair (first second : List ℕ) (s : FilesState) (status : Status) : Type 0 where
  pub a : Read
  pub b : Read
  pub first_read : HasRead first s a
  pub second_read : HasRead second s b
  pub fault : PlugFault
  pub refuses : pair_verdict a b ≡ Refuses fault
  pub told : status ≡ PlugRefused fault

abbrev pub PairCause : (first second : List ℕ) → FilesState → FilesState → Status → Type 0
PairCause first second s t status = (status ≡ NoMemory) ⊎ (PartCause first s t status ⊎ (((a : Read) × HasRead first s a × PartCause second s t status) ⊎ HasRefusedPair first second s status))

-- the policy's file or its text, then the components, then the policy's trees; or memory ran out
abbrev pub PlugCause : PlugCommand → FilesState → FilesState → Status → Type 0
PlugCause c s t status = (status ≡ NoMemory) ⊎ (PolicyCause c.policy s t status
    ⊎ ((policy : Policy) × HasPolicy c.policy s policy × (PairCause c.first c.second s t status ⊎ (HasPair c.first c.second s × TreesCause policy s t status))))

-- ---- the whole call

-- What was read can be made one; its output is written, or the write failed and left a part of it.
pub record PlugWrote (c : PlugCommand) (s : FilesState) : Type 0 where
  pub policy : Policy
  pub has_policy : HasPolicy c.policy s policy
  pub has_pair : HasPair c.first c.second s
  pub has_trees : HasTrees policy s
  pub bytes : List ℕ
  pub output : IsPluggedOutput policy has_pair.a has_pair.b bytes

-- the bytes of the two made one and of the output, and the imported functions
abbrev pub plugged_text : (policy : Policy) (a b bytes : List ℕ) → IsPluggedOutput policy a b bytes → List ℕ
plugged_text policy a b bytes o = done_text (length o.plugged) (length bytes) (plugged_count policy a b bytes o)

-- The output is there.
pub record PlugDone (c : PlugCommand) (s t : FilesState) (status : Status) (text : List ℕ) : Type 0 where
  pub done : status ≡ Done
  pub wrote : PlugWrote c s
  pub line : text ≡ plugged_text wrote.policy wrote.has_pair.a wrote.has_pair.b wrote.bytes wrote.output
  pub written : s.told ≡ true → t.held ≡ with_file s.held c.out (Some wrote.bytes)

-- The output could not be written whole.
pub record PlugLeft (c : PlugCommand) (s t : FilesState) (status : Status) (text : List ℕ) : Type 0 where
  pub fault : status ≡ FileFault c.out
  pub wrote : PlugWrote c s
  pub line : text ≡ status_text (FileFault c.out)
  pub cause : Rose s.faults t.faults
  pub left : s.told ≡ true → LeftOf c.out wrote.bytes s.held t.held

-- Nothing was written, for a cause.
pub record PlugStopped (c : PlugCommand) (s t : FilesState) (status : Status) (text : List ℕ) : Type 0 where
  pub cause : PlugCause c s t status
  pub line : text ≡ status_text status
  pub stays : t.held ≡ s.held

-- why a status was due with this text, and what has become of the files
abbrev pub PlugEnd : PlugCommand → FilesState → FilesState → Status → List ℕ → Type 0
PlugEnd c s t status text = PlugDone c s t status text ⊎ (PlugLeft c s t status text ⊎ PlugStopped c s t status text)

-- how long the output is that was written, or was to be
abbrev pub length_plugged : (c : PlugCommand) (s t : FilesState) (status : Status) (text : List ℕ) → PlugEnd c s t status text → ℕ
length_plugged c s t status text (inl done) = length done.wrote.bytes
length_plugged c s t status text (inr (inl left)) = length left.wrote.bytes
length_plugged c s t status text (inr (inr stopped)) = 0

-- an output of this length has its place and room
abbrev pub PlugFits : Held → PlugCommand → ℕ → Type 0
PlugFits held c len = (no_place held c.out ≡ false) × (len ≤ held.room c.out)

pub record PlugRan (c : PlugCommand) (s t : FilesState) (k l : SinkState) (result : Status) : Type 0 where
  pub goes : Goes s t
  pub due : Status
  pub text : List ℕ
  pub end : PlugEnd c s t due text
  pub report : Reports due text k l result
  -- where memory ran out nothing was put, and no file has changed
  pub kept : result ≡ NoMemory → (l ≡ k) × (t.held ≡ s.held)
  -- over steady files with each file that is due, where the output has its place and room, no fault is provoked
  pub quiet : s.told ≡ true → s.steady ≡ true → NoPlugFileDue s.held c → (IsPlugDue s.held c Done → PlugFits s.held c (length_plugged c s t due text end)) → t.faults ≡ s.faults

-- ---- what follows for every caller

-- Where no count rose, the status is the one that the contents call for, or memory ran out.
abbrev pub PlugCompletes : PlugCommand → FilesState → FilesState → SinkState → SinkState → Status → Type 0
PlugCompletes c s t k l result = s.told ≡ true → ¬ (Rose s.faults t.faults) → ¬ (Rose k.faults l.faults) → IsPlugDue s.held c result ⊎ (result ≡ NoMemory)

-- Where the call is to be accepted and no count rose, it is done, or memory ran out.
abbrev pub PlugAccepts : PlugCommand → FilesState → FilesState → SinkState → SinkState → Status → Type 0
PlugAccepts c s t k l result = s.told ≡ true → IsPlugAccepted s.held c → ¬ (Rose s.faults t.faults) → ¬ (Rose k.faults l.faults) → (result ≡ Done) ⊎ (result ≡ NoMemory)

-- What Done says: the call was to be accepted, the file named OUT holds an output of the two components made one, and all else stays.
pub record PlugDelivers (c : PlugCommand) (s t : FilesState) : Type 0 where
  pub accepted : IsPlugAccepted s.held c
  pub bytes : List ℕ
  pub output : IsPluggedOutput accepted.policy accepted.components.a accepted.components.b bytes
  pub written : t.held ≡ with_file s.held c.out (Some bytes)

-- ---- for private clauses

-- The files hold two components, which are made one.
pub record HasPlugged (first second : List ℕ) (s : FilesState) (f : Fetched) : Type 0 where
  pub has_pair : HasPair first second s
  pub made : IsMadeOf has_pair.pair has_pair.a has_pair.b f

-- no file of the two that is due is absent
abbrev pub NoPairFileDue : Held → (first second : List ℕ) → Type 0
NoPairFileDue held first second = (name : List ℕ) → ¬ (IsPairVerdict held first second (FileFault name))

-- What reading both and making them one does.
pub record FetchesPair (first second : List ℕ) (s t : FilesState) (r : Result Fetched Status) : Type 0 where
  pub goes : Goes s t
  pub stays : t.held ≡ s.held
  pub whole : IfOk r (HasPlugged first second s)
  pub cause : IfErr r (PairCause first second s t)
  pub quiet : s.told ≡ true → s.steady ≡ true → NoPairFileDue s.held first second → (t.faults ≡ s.faults) × IfErr r (λ e. ¬ (IsFileFault e))

-- What is known once all was read.
pub record IsPlugReady (c : PlugCommand) (s : FilesState) (p : Ready) : Type 0 where
  pub policy : Policy
  pub has_policy : HasPolicy c.policy s policy
  pub has_pair : HasPair c.first c.second s
  pub has_trees : HasTrees policy s
  pub output : IsPluggedOutput policy has_pair.a has_pair.b (written_by p)
  pub done_line : string_bytes p.done_line ≡ plugged_text policy has_pair.a has_pair.b (written_by p) output
  pub fault : p.fault ≡ FileFault c.out
  pub fault_line : string_bytes p.fault_line ≡ status_text (FileFault c.out)

pub record PlansPlug (c : PlugCommand) (s t : FilesState) (r : Result Ready Status) : Type 0 where
  pub goes : Goes s t
  pub stays : t.held ≡ s.held
  pub ready : IfOk r (IsPlugReady c s)
  pub cause : IfErr r (PlugCause c s t)
  pub quiet : s.told ≡ true → s.steady ≡ true → NoPlugFileDue s.held c → (t.faults ≡ s.faults) × IfErr r (λ e. ¬ (IsFileFault e))
