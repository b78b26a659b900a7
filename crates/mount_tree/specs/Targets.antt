-- How many bytes the targets of links have together: of those that a policy writes out, and of those in trees that were made.
use Rattle.std.specs.Prelude.{ℕ, ◌+◌, List, length}
use Rattle.std.specs.List.{sum_by}
use Rattle.tree_table.specs.Trees.{target_length, total_in}
use Rattle.policy_data.specs.declared.data.Link.{Link}
use Rattle.policy_data.specs.declared.data.Embedded.{Embedded}
use Rattle.policy_data.specs.declared.data.TreeContent.{TreeContent}
use Rattle.policy_data.specs.declared.data.TreeContent.TheVariants.{Mount, Embedded as Written}
use Rattle.policy_data.specs.declared.data.TreeSource.{TreeSource}
use Rattle.policy_data.specs.declared.policy.Policy.{Policy}
use Rattle.mount_tree.specs.declared.forest.MadeTree.{MadeTree}
use Rattle.mount_tree.specs.Making.{Sofar}

-- ---- what a policy writes out

abbrev pub link_targets : List Link → ℕ
link_targets links = sum_by (λ link. length link.target) links

-- a folder that is mounted gives no links
abbrev pub content_targets : TreeContent → ℕ
content_targets (Mount folder) = 0
content_targets (Written embedded) = link_targets embedded.links

abbrev pub source_targets : List TreeSource → ℕ
source_targets sources = sum_by (λ source. content_targets source.content) sources

-- the targets of all links that a policy writes out
abbrev pub policy_targets : Policy → ℕ
policy_targets policy = source_targets policy.fs_tree

-- ---- trees that were made

abbrev pub made_targets : List MadeTree → ℕ
made_targets trees = sum_by (λ tree. total_in target_length tree.nodes) trees

-- those of a tree in the making, and of the trees before it
abbrev pub targets_of : Sofar → ℕ
targets_of sofar = made_targets sofar.before.trees + total_in target_length sofar.there
