use Rattle.std.proofs.Common.{◌≡◌, true, All, length}
use Rattle.path_names.specs.Paths.{is_path}
use Rattle.mount_tree.specs.Runs.{each}
use Rattle.mount_tree.specs.Building.{folder_step}
use Rattle.mount_tree.proofs.steps.add_folders.Given as goal

abbrev pub invariant-loop-folder : goal.invariant-loop-folder
invariant-loop-folder l = record {
  due : (each folder_step l.fn.making l.folders).answer ≡ (each folder_step l.made l.rest).answer;
  paths : All (λ folder. is_path folder ≡ true) l.rest;
}

abbrev pub decreases-loop-folder : goal.decreases-loop-folder
decreases-loop-folder l = length l.rest
