-- The trees that were made, with the paths of each in its order.
use Rattle.std.specs.Prelude.{◌≡◌, List, [], ◌∷◌, Result, Ok, Err, IfOk, IfErr, true}
use Rattle.std.specs.List.Sorted.{IsPermutation, IsSortedBy}
use Rattle.std.specs.Ordering.{is_lt}
use Rattle.tree_table.specs.declared.entries.NamedTree.{NamedTree}
use Rattle.tree_table.specs.Trees.{path_cmp}
use Rattle.outside.specs.Files.{FilesState, Goes}
use Rattle.policy_data.specs.declared.policy.Policy.{Policy}
use Rattle.mount_tree.specs.declared.fault.TreeFault.{TreeFault}
use Rattle.mount_tree.specs.declared.forest.MadeTree.{MadeTree}
use Rattle.mount_tree.specs.Runs.{Answers, IsFileFault}
use Rattle.mount_tree.specs.declared.forest.Forest.{Forest}
use Rattle.mount_tree.specs.Building.{trees_due}

-- the paths of a tree, which stand in order: what was made, and nothing else
pub record IsOrdered (made : MadeTree) (tree : NamedTree) : Type 0 where
  pub name : tree.name ≡ made.name
  pub same : IsPermutation made.nodes tree.entries
  pub ordered : IsSortedBy (λ a b. is_lt (path_cmp a.path b.path)) tree.entries

abbrev pub AreOrdered : List MadeTree → List NamedTree → Type 0
AreOrdered [] [] = Unit {0}
AreOrdered (m ∷ ms) (t ∷ ts) = IsOrdered m t × AreOrdered ms ts
AreOrdered [] (t ∷ ts) = ⊥
AreOrdered (m ∷ ms) [] = ⊥

-- The trees are those that the policy and the files stand for, in order; or the first fault comes, or no memory.
pub record Builds (policy : Policy) (s t : FilesState) (r : Result (List NamedTree) TreeFault) : Type 0 where
  pub goes : Goes s t
  pub stays : t.held ≡ s.held
  pub trees : IfOk r (λ trees. (forest : Forest) × (s.told ≡ true → (trees_due s.held policy).answer ≡ Ok forest) × AreOrdered forest.trees trees)
  pub refusal : IfErr r (λ fault. Answers (trees_due s.held policy) s t (Err fault))
  -- over steady files no fault is provoked
  pub quiet : s.told ≡ true → s.steady ≡ true → ¬ (IsFileFault (trees_due s.held policy).answer) → t.faults ≡ s.faults
