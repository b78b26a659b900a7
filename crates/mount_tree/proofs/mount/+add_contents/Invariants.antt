use Rattle.std.proofs.Common.{◌-◌, ◌≤◌, length}
use Rattle.mount_tree.specs.Runs.{each}
use Rattle.mount_tree.specs.Building.{entry_due, mount_due}
use Rattle.mount_tree.specs.Targets.{targets_of}
use Rattle.mount_tree.proofs.Follows.{Follows}
use Rattle.mount_tree.proofs.mount.+add_contents.Given as goal

abbrev pub invariant-loop-entry : goal.invariant-loop-entry
invariant-loop-entry g l = record {
  due : (let held = (g.F.Files.state l.fn.files).held in
      Follows (mount_due l.levels held l.folder l.path l.fn.making) (each (entry_due (mount_due (l.levels - 1) held) held l.folder l.path) l.made l.rest)
      (g.F.Files.state l.fn.files) (g.F.Files.state l.files));
  targets : targets_of l.made ≤ targets_of l.fn.making;
}

abbrev pub decreases-loop-entry : goal.decreases-loop-entry
decreases-loop-entry g l = length l.rest

abbrev pub decreases-add_contents : goal.decreases-add_contents
decreases-add_contents g l = l.levels
