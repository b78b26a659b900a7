-- What a call of `run` comes to.
use Rattle.std.specs.Prelude.{ℕ, ◌≡◌, ◌⊎◌, List, All, true, map, Option, Some, None, Result, IfErr, IfOk}
use Rattle.outside.specs.Fault.{Rose}
use Rattle.outside.specs.Files.{FilesState, Held, Goes}
use Rattle.outside.specs.Sink.{SinkState}
use Rattle.policy_data.specs.declared.policy.Policy.{Policy}
use Rattle.mount_tree.specs.Ordered.{AreOrdered}
use Rattle.tree_table.specs.declared.entries.NamedTree.{NamedTree}
use Rattle.comp_grammar.specs.Trees.{plain}
use Rattle.host_port.specs.Scripts as port
use Rattle.host_script.specs.Script.{item_seen, call_seen}
use Rattle.reference_step.specs.State.{Reference, opening}
use Rattle.reference_step.specs.Steps.{reference_step}
use Rattle.reference_host.specs.Hosts.{setup_for}
use Rattle.component_judge.specs.Components.{IsRunnable}
use Rattle.call_moments.specs.declared.end.RunEnd.{RunEnd}
use Rattle.call_moments.specs.declared.end.RunEnd.TheVariants as ends
use Rattle.component_judge.specs.declared.unready.Unready.{Unready}
use Rattle.component_judge.specs.declared.inputs.Inputs.{Inputs}
use Rattle.component_judge.specs.declared.inputs.ListedInputs.{ListedInputs}
use Rattle.component_judge.specs.Inputs.{AreReady, AreListedReady, InputsCause, ListedCause}
use Rattle.virt_words.specs.Lines.{text_of}
use Rattle.virt_engine.specs.declared.runner.Shown.{Shown}
use Rattle.virt_engine.specs.Lines.{IsLine}
use Rattle.virt_engine.specs.Shown.{IsShown, told_component, ShowsRun}
use Rattle.virt_engine.specs.declared.status.Status.{Status}
use Rattle.virt_engine.specs.declared.status.Status.TheVariants.{Done, NoMemory, Trapped, ScriptEnded, StepsSpent, BadAnswer, TooDeep}
use Rattle.virt_engine.specs.Command.{RunCommand}
use Rattle.virt_engine.specs.Fetching.{unready_as}
use Rattle.virt_engine.specs.Policies.{HasPolicy, PolicyCause}
use Rattle.virt_engine.specs.PolicyTrees.{HasTrees, AreTreesOf, TreesCause}
use Rattle.virt_engine.specs.RunDue.{IsRunRefused, AreAccepted, IsAcceptedUnder, CanBeRun, NoFileDueBy, NoRunFileDue}
use Rattle.virt_engine.specs.Line.{status_text}
use Rattle.virt_engine.specs.Report.{Puts, Reports}

-- the status of a run that ended so
abbrev pub ended_as : RunEnd → Status
ended_as (ends.Returned value) = Done
ended_as ends.Trapped = Trapped
ended_as ends.ScriptEnded = ScriptEnded
ended_as ends.Spent = StepsSpent
ended_as ends.BadAnswer = BadAnswer
ended_as ends.TooDeep = TooDeep

-- ---- why nothing is shown

-- the component's file or what it holds, or then the script's
abbrev pub AloneCause : RunCommand → FilesState → FilesState → Status → Type 0
AloneCause c s t status = (why : Unready) × InputsCause c.component c.script s t why × (status ≡ unready_as why)

abbrev pub UnderListedCause : RunCommand → FilesState → FilesState → Status → Type 0
UnderListedCause c s t status = (why : Unready) × ListedCause c.component c.script s t why × (status ≡ unready_as why)

-- under a policy its file or its text comes before these, and its trees after them
abbrev pub UnderCause : RunCommand → List ℕ → FilesState → FilesState → Status → Type 0
UnderCause c name s t status = PolicyCause name s t status
    ⊎ ((policy : Policy) × HasPolicy name s policy
    × (UnderListedCause c s t status ⊎ ((inputs : ListedInputs) × AreListedReady c.component c.script s inputs × TreesCause policy s t status)))

abbrev pub CauseBy : RunCommand → Option (List ℕ) → FilesState → FilesState → Status → Type 0
CauseBy c None s t status = AloneCause c s t status
CauseBy c (Some name) s t status = UnderCause c name s t status

-- one of these, or no memory
abbrev pub RunCause : RunCommand → FilesState → FilesState → Status → Type 0
RunCause c s t status = (status ≡ NoMemory) ⊎ CauseBy c c.policy s t status

-- ---- what is run

-- A policy, a component that is listed, a script for it and the policy's trees.
pub record BeginsUnder (c : RunCommand) (name : List ℕ) (s : FilesState) : Type 0 where
  pub policy : Policy
  pub has_policy : HasPolicy name s policy
  pub inputs : ListedInputs
  pub ready : AreListedReady c.component c.script s inputs
  pub has_trees : HasTrees policy s
  pub trees : List NamedTree
  pub are : AreTreesOf policy s trees

abbrev pub BeginsBy : RunCommand → Option (List ℕ) → FilesState → Type 0
BeginsBy c None s = (inputs : Inputs) × AreReady c.component c.script s inputs
BeginsBy c (Some name) s = BeginsUnder c name s

-- the files hold what the run begins with
abbrev pub Begins : RunCommand → FilesState → Type 0
Begins c s = BeginsBy c c.policy s

-- ---- what is shown of it

-- the reference host of a policy before its first call, over a script
abbrev pub opened_under : {c : RunCommand} → {name : List ℕ} → {s : FilesState} → BeginsUnder c name s → Reference port.Script
opened_under b = opening (setup_for b.policy b.trees b.inputs.listed.uses) (map item_seen b.inputs.inputs.scripted.script.answers)

-- The component is run over the script, and the calls of the script are made; under a policy over its reference host, which asks the script.
abbrev pub ShowsWhat : (c : RunCommand) (policy : Option (List ℕ)) (s : FilesState) → BeginsBy c policy s → Shown → Type 0
ShowsWhat c None s b shown = ShowsRun (plain b.0.judged.component) port.script (map item_seen b.0.scripted.script.answers) (map call_seen b.0.scripted.script.calls) c.steps shown
ShowsWhat c (Some name) s b shown = ShowsRun (plain b.inputs.inputs.judged.component) (reference_step port.script) (opened_under b) (map call_seen b.inputs.inputs.scripted.script.calls) c.steps shown

-- ---- what a call does

-- Nothing is shown, for a cause, whose text was put.
pub record RanNot (c : RunCommand) (s t : FilesState) (k l : SinkState) (result : Status) : Type 0 where
  pub why : Status
  pub cause : RunCause c s t why
  pub report : Reports why (status_text why) k l result

-- The lines of a run were put, each of something seen, and the status says how it ended.
pub record PutsShown (shown : Shown) (k l : SinkState) (result : Status) : Type 0 where
  pub seen : All IsLine shown.lines
  pub puts : Puts (ended_as shown.end) (text_of shown.lines) k l result

-- The component and the script were run.
pub record RanOn (c : RunCommand) (s : FilesState) (k l : SinkState) (result : Status) : Type 0 where
  pub begins : Begins c s
  pub shown : Shown
  pub ends : IsShown shown
  -- the lines, and the end, are those of the definition
  pub runs : ShowsWhat c c.policy s begins shown
  pub shows : PutsShown shown k l result

pub record RunsBy (c : RunCommand) (s t : FilesState) (k l : SinkState) (result : Status) : Type 0 where
  pub goes : Goes s t
  -- no name has changed
  pub stays : t.held ≡ s.held
  pub end : RanNot c s t k l result ⊎ RanOn c s k l result
  -- where memory ran out nothing was put
  pub kept : result ≡ NoMemory → l ≡ k
  -- over steady files with each file that is due no fault is provoked
  pub quiet : s.told ≡ true → s.steady ≡ true → NoRunFileDue s.held c → t.faults ≡ s.faults

-- ---- what follows for every caller

-- The files hold a component that can be run and a script for it, and the status is that of how the run ends.
pub record EndsAlone (held : Held) (c : RunCommand) (status : Status) : Type 0 where
  pub accepted : AreAccepted IsRunnable held c
  pub end : status ≡ ended_as (told_component accepted.tree port.script accepted.script.script.answers accepted.script.script.calls c.steps).end

-- A policy of that name besides, whose trees can be made: the run is over its reference host.
pub record EndsUnder (held : Held) (c : RunCommand) (name : List ℕ) (status : Status) : Type 0 where
  pub accepted : IsAcceptedUnder held c name
  pub trees : List NamedTree
  pub ordered : AreOrdered accepted.forest.trees trees
  pub end : status
      ≡ ended_as (told_component accepted.inputs.tree (reference_step port.script) (opening (setup_for accepted.policy trees accepted.inputs.component.fits.0) accepted.inputs.script.script.answers) accepted.inputs.script.script.calls c.steps).end

abbrev pub EndsBy : Held → RunCommand → Option (List ℕ) → Status → Type 0
EndsBy held c None status = EndsAlone held c status
EndsBy held c (Some name) status = EndsUnder held c name status

-- the contents can be run, and the status is that of how that run ends
abbrev pub Ends : Held → RunCommand → Status → Type 0
Ends held c status = EndsBy held c c.policy status

-- Where no count rose, the status is the refusal that the contents call for; or they can be run, and the status says how the run ends;
-- or memory ran out.
abbrev pub RunCompletes : RunCommand → FilesState → FilesState → SinkState → SinkState → Status → Type 0
RunCompletes c s t k l result = s.told ≡ true → ¬ (Rose s.faults t.faults) → ¬ (Rose k.faults l.faults)
    → IsRunRefused s.held c result ⊎ Ends s.held c result ⊎ (result ≡ NoMemory)

-- Where the contents can be run and no count rose, the status says how the run ends, or memory ran out.
abbrev pub RunAccepts : RunCommand → FilesState → FilesState → SinkState → SinkState → Status → Type 0
RunAccepts c s t k l result = s.told ≡ true → CanBeRun s.held c → ¬ (Rose s.faults t.faults) → ¬ (Rose k.faults l.faults)
    → Ends s.held c result ⊎ (result ≡ NoMemory)

-- ---- for private clauses

-- What reading all that a run begins with does, and running it: what is shown, or why nothing is.
pub record ShowsBy (c : RunCommand) (policy : Option (List ℕ)) (s t : FilesState) (r : Result Shown Status) : Type 0 where
  pub goes : Goes s t
  pub stays : t.held ≡ s.held
  pub begins : IfOk r (λ shown. (b : BeginsBy c policy s) × ShowsWhat c policy s b shown)
  pub ends : IfOk r IsShown
  pub cause : IfErr r (λ status. (status ≡ NoMemory) ⊎ CauseBy c policy s t status)
  pub quiet : s.told ≡ true → s.steady ≡ true → NoFileDueBy s.held c policy → t.faults ≡ s.faults

abbrev pub ShowsAlone : RunCommand → FilesState → FilesState → Result Shown Status → Type 0
ShowsAlone c s t r = ShowsBy c None s t r

abbrev pub ShowsUnder : RunCommand → List ℕ → FilesState → FilesState → Result Shown Status → Type 0
ShowsUnder c name s t r = ShowsBy c (Some name) s t r

abbrev pub ShowsTask : RunCommand → FilesState → FilesState → Result Shown Status → Type 0
ShowsTask c s t r = ShowsBy c c.policy s t r
