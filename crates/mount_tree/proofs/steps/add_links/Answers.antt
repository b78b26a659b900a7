use Rattle.std.proofs.Common.{◌≡◌, ◌∙◌, true}
use Rattle.path_names.specs.Paths.{is_path, is_target}
use Rattle.policy_data.specs.declared.data.Link.{Link}
use Rattle.mount_tree.specs.Building.{link_step}
use Rattle.mount_tree.proofs.Follows.{each_says}
use Rattle.mount_tree.proofs.LegalLemmas.{rest-holds}
use Rattle.mount_tree.proofs.steps.add_links.Goals as goal

abbrev has_link : Link → Type 0
has_link link = (is_path link.path ≡ true) × (is_target link.target ≡ true)

pub loop-link-preserved : goal.loop-link-preserved
loop-link-preserved c = record {
  due = c.loop-link.invariant.due ∙ each_says (λ s (link : Link). link_step s link.path link.target) c.loop-link.made c.in_ok-made.made c.loop-link.rest.now c.in-Some.more.now c.in-Some.link.now c.in-Some.ensures.cases.0
      c.in_ok-made.ensures;
  paths = rest-holds has_link c.loop-link.rest.now c.in-Some.more.now c.in-Some.link.now c.in-Some.ensures.cases.0 c.loop-link.invariant.paths;
}
