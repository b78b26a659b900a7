use Rattle.mount_tree.proofs.TreeLemmas.{are-built}
use Rattle.mount_tree.proofs.TargetLemmas.{built_limits, trees_targets}
use Rattle.mount_tree.proofs.policy_trees.build.Goals as goal

pub returns-clause-trees : goal.returns-clause-trees
returns-clause-trees g c = are-built c.in_ok-forest.forest c.in_ok-trees.trees c.in_ok-forest.ensures.wood c.in_ok-trees.ensures

pub returns-clause-targets : goal.returns-clause-targets
returns-clause-targets g c = trees_targets c.args.policy.now c.in_ok-forest.forest c.in_ok-trees.trees c.in_ok-forest.ensures.targets c.in_ok-trees.ensures

pub returns-clause-limits : goal.returns-clause-limits
returns-clause-limits g c = λ short.
    built_limits c.args.policy.now c.in_ok-trees.trees (are-built c.in_ok-forest.forest c.in_ok-trees.trees c.in_ok-forest.ensures.wood c.in_ok-trees.ensures)
    (trees_targets c.args.policy.now c.in_ok-forest.forest c.in_ok-trees.trees c.in_ok-forest.ensures.targets c.in_ok-trees.ensures) short
