-- The trees of a command's policy, and the status that a fault of them calls for.
use Rattle.std.specs.Prelude.{◌≡◌, List, true, Contains, Result, Ok, Err, IfErr, IfOk}
use Rattle.outside.specs.Fault.{Rose}
use Rattle.outside.specs.Files.{FilesState, Held, Goes}
use Rattle.policy_data.specs.declared.policy.Policy.{Policy}
use Rattle.mount_tree.specs.declared.fault.TreeFault.{TreeFault}
use Rattle.mount_tree.specs.declared.fault.TreeFault.TheVariants as faults
use Rattle.mount_tree.specs.declared.forest.Forest.{Forest}
use Rattle.mount_tree.specs.Runs.{IsAbove}
use Rattle.mount_tree.specs.Building.{trees_due}
use Rattle.mount_tree.specs.Ordered.{AreOrdered}
use Rattle.mount_tree.specs.Woods.{AreBuilt}
use Rattle.tree_table.specs.declared.entries.NamedTree.{NamedTree}
use Rattle.virt_words.specs.declared.policy_fault.PolicyFault.TheVariants.{BadName}
use Rattle.virt_engine.specs.declared.status.Status.{Status}
use Rattle.virt_engine.specs.declared.status.Status.TheVariants.{Done, PolicyRefused, FileFault, OverLimit, NoMemory}
use Rattle.virt_engine.specs.Fetching.{IsFileFault}

abbrev pub stopped_by : TreeFault → Status
stopped_by (faults.FileFault name) = FileFault name
stopped_by (faults.BadName name) = PolicyRefused (BadName name)
stopped_by (faults.OverLimit what value) = OverLimit what value
stopped_by faults.NoMemory = NoMemory

abbrev pub IsStoppedBy : TreeFault → Status → Type 0
IsStoppedBy fault status = stopped_by fault ≡ status

abbrev pub with_trees : Result Forest TreeFault → Status → Status
with_trees (Ok forest) next = next
with_trees (Err fault) next = stopped_by fault

-- the status that the policy's trees call for, or what is due next
abbrev pub trees_verdict : Held → Policy → Status → Status
trees_verdict held policy next = with_trees (trees_due held policy).answer next

-- this status is due whatever comes next
abbrev pub IsTreesVerdict : Held → Policy → Status → Type 0
IsTreesVerdict held policy status = (next : Status) → trees_verdict held policy next ≡ status

-- The trees can be made.
pub record HasTrees (policy : Policy) (s : FilesState) : Type 0 where
  pub forest : Forest
  pub made : s.told ≡ true → (trees_due s.held policy).answer ≡ Ok forest
  pub taken : s.told ≡ true → (next : Status) → trees_verdict s.held policy next ≡ next

-- these are the trees that the policy and the files stand for, the paths of each in order
abbrev pub AreTreesOf : Policy → FilesState → List NamedTree → Type 0
AreTreesOf policy s trees = (forest : Forest) × (s.told ≡ true → (trees_due s.held policy).answer ≡ Ok forest) × AreOrdered forest.trees trees

-- why making the trees gave this status; a file or a folder whose name was asked for may fail besides
abbrev pub TreesCause : Policy → FilesState → FilesState → Status → Type 0
TreesCause policy s t (FileFault name) = Rose s.faults t.faults × (s.told ≡ true → Contains (trees_due s.held policy).asks name)
    × (s.told ≡ true → s.steady ≡ true → IsTreesVerdict s.held policy (FileFault name))
TreesCause policy s t NoMemory = Unit {0}
TreesCause policy s t (OverLimit what value) = IsAbove what value × (s.told ≡ true → IsTreesVerdict s.held policy (OverLimit what value))
TreesCause policy s t (PolicyRefused fault) = s.told ≡ true → IsTreesVerdict s.held policy (PolicyRefused fault)
TreesCause policy s t _ = ⊥

-- What making the trees of a policy does.
pub record MakesTrees (policy : Policy) (s t : FilesState) (r : Result (List NamedTree) Status) : Type 0 where
  pub goes : Goes s t
  pub stays : t.held ≡ s.held
  pub trees : IfOk r (λ _. HasTrees policy s)
  pub made : IfOk r (AreTreesOf policy s)
  pub built : IfOk r AreBuilt
  pub cause : IfErr r (TreesCause policy s t)
  pub quiet : s.told ≡ true → s.steady ≡ true → ¬ (IsFileFault (trees_verdict s.held policy Done)) → (t.faults ≡ s.faults) × IfErr r (λ e. ¬ (IsFileFault e))
