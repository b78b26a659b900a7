use Rattle.std.proofs.Common.{◌≡◌, ◌≤◌, true, All, length}
use Rattle.path_names.specs.Paths.{is_path}
use Rattle.mount_tree.specs.Runs.{each}
use Rattle.mount_tree.specs.Building.{file_step}
use Rattle.policy_data.specs.declared.data.EmbeddedFile.{EmbeddedFile}
use Rattle.mount_tree.specs.Targets.{targets_of}
use Rattle.mount_tree.proofs.Follows.{Follows}
use Rattle.mount_tree.proofs.steps.add_files.Given as goal

abbrev pub invariant-loop-file : goal.invariant-loop-file
invariant-loop-file g l = record {
  due : (let held = (g.F.Files.state l.fn.files).held in
      Follows (each (λ s (file : EmbeddedFile). file_step held s file.path file.content) l.fn.making l.embedded)
      (each (λ s (file : EmbeddedFile). file_step held s file.path file.content) l.made l.rest) (g.F.Files.state l.fn.files) (g.F.Files.state l.files));
  paths : All (λ (file : EmbeddedFile). is_path file.path ≡ true) l.rest;
  targets : targets_of l.made ≤ targets_of l.fn.making;
}

abbrev pub decreases-loop-file : goal.decreases-loop-file
decreases-loop-file g l = length l.rest
