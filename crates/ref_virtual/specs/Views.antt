-- A table holds the trees of which rows read.
use Rattle.std.specs.Prelude.{◌≡◌, ℕ, ◌<◌, List, Some, IsUtf8}
use Rattle.tree_table.specs.declared.entries.Node.TheVariants.{Link}
use Rattle.tree_table.specs.Tables.{Forest, Holds, count_of, tree_of, path_of, node_of, last_name}
use Rattle.tree_table.specs.Trees.{AreTrees}
use Rattle.reference_step.specs.Handles.{Content, Node, DirectoryEntry}
use Rattle.reference_step.specs.Nodes.{type_of}
use Rattle.reference_step.specs.State.{View}

pub record HoldsTrees (f : Forest) (v : View) : Type 0 where
  pub trees : AreTrees v.trees
  pub holds : Holds v.trees f

-- a descriptor of a node
abbrev pub node_in : Forest → ℕ → Content
node_in f node = Node (tree_of f node) (path_of f node)

-- what a listing tells of a node
abbrev pub node_entry : Forest → ℕ → DirectoryEntry
node_entry f node = record { ty = type_of (Some (node_of f node)); name = last_name (path_of f node) }

-- what links lead to is text
abbrev pub AreTexts : Forest → Type 0
AreTexts f = (i : ℕ) (target : List ℕ) → i < count_of f → node_of f i ≡ Link target → IsUtf8 target
