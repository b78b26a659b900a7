use Rattle.std.proofs.Common.{◌≡◌, true, All, length}
use Rattle.path_names.specs.Paths.{is_path, is_target}
use Rattle.policy_data.specs.declared.data.Link.{Link}
use Rattle.mount_tree.specs.Runs.{each}
use Rattle.mount_tree.specs.Building.{link_step}
use Rattle.mount_tree.proofs.steps.add_links.Given as goal

abbrev pub invariant-loop-link : goal.invariant-loop-link
invariant-loop-link l = record {
  due : (each (λ s (link : Link). link_step s link.path link.target) l.fn.making l.links).answer ≡ (each (λ s (link : Link). link_step s link.path link.target) l.made l.rest).answer;
  paths : All (λ (link : Link). (is_path link.path ≡ true) × (is_target link.target ≡ true)) l.rest;
}

abbrev pub decreases-loop-link : goal.decreases-loop-link
decreases-loop-link l = length l.rest
