-- What trees that were made, and trees that are built of them, are, whatever files held.
use Rattle.std.specs.Prelude.{◌≡◌, ◌≤◌, ℕ, List, All, length}
use Rattle.std.specs.List.{sum_by}
use Rattle.tree_table.specs.declared.entries.NamedTree.{NamedTree}
use Rattle.tree_table.specs.Trees.{AreTrees, file_length, total, total_in}
use Rattle.mount_tree.specs.declared.forest.MadeTree.{MadeTree}
use Rattle.mount_tree.specs.declared.forest.Forest.{Forest}
use Rattle.mount_tree.specs.Growing.{IsGrown}
use Rattle.mount_tree.specs.Legal.{AreLegal}

pub record IsMade (tree : MadeTree) : Type 0 where
  pub grown : IsGrown tree.nodes
  pub legal : AreLegal tree.nodes

abbrev pub made_nodes : List MadeTree → ℕ
made_nodes trees = sum_by (λ tree. length tree.nodes) trees

-- how many bytes the files of trees have
abbrev pub made_bytes : List MadeTree → ℕ
made_bytes trees = sum_by (λ tree. total_in file_length tree.nodes) trees

pub record IsWood (forest : Forest) : Type 0 where
  pub made : All IsMade forest.trees
  pub count : made_nodes forest.trees ≡ forest.nodes
  pub few : forest.nodes ≤ 65536
  pub held : made_bytes forest.trees ≤ forest.bytes
  pub light : forest.bytes ≤ 67108864

-- Trees that a table can be made of, within the limits of trees: legal names without `/`, at most 64 in a path, targets in UTF-8 that links may
-- have, and at most 67,108,864 bytes in files.
pub record AreBuilt (trees : List NamedTree) : Type 0 where
  pub sound : AreTrees trees
  pub legal : All (λ tree. AreLegal tree.entries) trees
  pub light : total file_length trees ≤ 67108864
