-- Why nothing is run, in the order of refusals, and what can be run, in words of what files hold.
use Rattle.std.specs.Prelude.{ℕ, ◌≡◌, ◌≢◌, ◌≤◌, ◌⊎◌, List, Option, Some, None, Ok, length}
use Rattle.outside.specs.Files.{Held}
use Rattle.policy_data.specs.declared.policy.Policy.{Policy}
use Rattle.mount_tree.specs.declared.forest.Forest.{Forest}
use Rattle.mount_tree.specs.Building.{trees_due}
use Rattle.comp_types.specs.Items.{Entries}
use Rattle.comp_grammar.specs.Trees.{Tree}
use Rattle.comp_types.specs.Added.{type_of}
use Rattle.host_script.specs.Script.{PlainScript, due_script, json_in}
use Rattle.component_judge.specs.Callable.{callable}
use Rattle.component_judge.specs.declared.refusal.Refusal.{Refusal}
use Rattle.component_judge.specs.declared.refusal.Refusal.TheVariants as refusals
use Rattle.component_judge.specs.Components.{IsRefusal, IsRunnable}
use Rattle.component_judge.specs.Applications.{IsApplicationRefusal}
use Rattle.component_judge.specs.declared.limits.Purpose.TheVariants.{Run}
use Rattle.component_judge.specs.Limits.{script_limit}
use Rattle.component_judge.specs.declared.unready.Unready.TheVariants as unready
use Rattle.component_judge.specs.Inputs.{Fitting, IsListedBy, RefusesScript}
use Rattle.virt_engine.specs.declared.status.Status.{Status}
use Rattle.virt_engine.specs.declared.status.Status.TheVariants.{FileFault}
use Rattle.virt_engine.specs.Command.{RunCommand}
use Rattle.virt_engine.specs.Fetching.{unready_as}
use Rattle.virt_engine.specs.Policies.{IsPolicyFile, IsPolicyVerdict}
use Rattle.virt_engine.specs.PolicyTrees.{IsTreesVerdict}

-- ---- what files hold

-- The file holds a component that will do.
pub record HoldsComponent (Fits : Fitting) (held : Held) (name : List ℕ) (tree : Tree) : Type 0 where
  pub bytes : List ℕ
  pub there : held.file name ≡ Some bytes
  pub fits : Fits bytes tree

-- The file holds a script for a component with these exports.
pub record HoldsScript (held : Held) (name : List ℕ) (exports : Entries) : Type 0 where
  pub bytes : List ℕ
  pub there : held.file name ≡ Some bytes
  pub short : length bytes ≤ script_limit
  pub script : PlainScript
  pub due : due_script (callable exports) (json_in bytes) ≡ Ok script

-- ---- the definition: the status that they call for, where nothing is run

-- which bytes are refused, and how
abbrev pub Refusing : Type 1
Refusing = List ℕ → Refusal → Type 0

-- a file that is absent, or whose bytes are refused
abbrev pub IsVerdictBy : Refusing → Option (List ℕ) → List ℕ → Status → Type 0
IsVerdictBy Refuses None name status = status ≡ FileFault name
IsVerdictBy Refuses (Some bytes) name status = (refusal : Refusal) × (refusal ≢ refusals.NoMemory) × Refuses bytes refusal × (status ≡ unready_as (unready.Refused refusal))

-- the component's file, or then the script's
abbrev pub AreInputsRefused : Refusing → Fitting → Held → RunCommand → Status → Type 0
AreInputsRefused Refuses Fits held c status = IsVerdictBy Refuses (held.file c.component) c.component status
    ⊎ ((tree : Tree) × HoldsComponent Fits held c.component tree × IsVerdictBy (RefusesScript (type_of tree).exports) (held.file c.script) c.script status)

-- after the policy: the inputs are refused, or they are not and the policy's trees are
abbrev pub IsRefusedUnder : Held → RunCommand → Policy → Status → Type 0
IsRefusedUnder held c policy status = AreInputsRefused (IsApplicationRefusal Run) IsListedBy held c status
    ⊎ ((tree : Tree) × HoldsComponent IsListedBy held c.component tree × HoldsScript held c.script (type_of tree).exports × IsTreesVerdict held policy status)

abbrev pub IsRefusedBy : Held → RunCommand → Option (List ℕ) → Status → Type 0
IsRefusedBy held c None status = AreInputsRefused IsRefusal IsRunnable held c status
IsRefusedBy held c (Some name) status = IsPolicyVerdict held name status ⊎ ((policy : Policy) × IsPolicyFile held name policy × IsRefusedUnder held c policy status)

abbrev pub IsRunRefused : Held → RunCommand → Status → Type 0
IsRunRefused held c status = IsRefusedBy held c c.policy status

-- no file that is due is absent
abbrev pub NoFileDueBy : Held → RunCommand → Option (List ℕ) → Type 0
NoFileDueBy held c policy = (name : List ℕ) → ¬ (IsRefusedBy held c policy (FileFault name))

abbrev pub NoRunFileDue : Held → RunCommand → Type 0
NoRunFileDue held c = NoFileDueBy held c c.policy

-- ---- the same in words: what can be run

-- The files hold a component that will do and a script for it.
pub record AreAccepted (Fits : Fitting) (held : Held) (c : RunCommand) : Type 0 where
  pub tree : Tree
  pub component : HoldsComponent Fits held c.component tree
  pub script : HoldsScript held c.script (type_of tree).exports

-- A policy of that name besides, whose trees can be made.
pub record IsAcceptedUnder (held : Held) (c : RunCommand) (name : List ℕ) : Type 0 where
  pub policy : Policy
  pub policy_file : IsPolicyFile held name policy
  pub inputs : AreAccepted IsListedBy held c
  pub forest : Forest
  pub trees : (trees_due held policy).answer ≡ Ok forest

abbrev pub IsAcceptedBy : Held → RunCommand → Option (List ℕ) → Type 0
IsAcceptedBy held c None = AreAccepted IsRunnable held c
IsAcceptedBy held c (Some name) = IsAcceptedUnder held c name

abbrev pub CanBeRun : Held → RunCommand → Type 0
CanBeRun held c = IsAcceptedBy held c c.policy
