use Rattle.std.proofs.Common.{◌+◌, ◌≤◌, All, length}
use Rattle.mount_tree.specs.Runs.{each}
use Rattle.mount_tree.specs.Building.{tree_step, trees_due}
use Rattle.mount_tree.specs.Legal.{IsSource}
use Rattle.mount_tree.specs.Woods.{IsWood}
use Rattle.mount_tree.specs.Targets.{made_targets, policy_targets, source_targets}
use Rattle.mount_tree.proofs.Follows.{Follows}
use Rattle.mount_tree.proofs.policy_trees.make_trees.Given as goal

abbrev pub invariant-loop-source : goal.invariant-loop-source
invariant-loop-source g l = record {
  due : Follows (trees_due (g.F.Files.state l.fn.files).held l.policy) (each (tree_step (g.F.Files.state l.fn.files).held) l.forest l.rest) (g.F.Files.state l.fn.files) (g.F.Files.state l.files);
  wood : IsWood l.forest;
  sources : All IsSource l.rest;
  targets : made_targets l.forest.trees + source_targets l.rest ≤ policy_targets l.policy;
}

abbrev pub decreases-loop-source : goal.decreases-loop-source
decreases-loop-source g l = length l.rest
