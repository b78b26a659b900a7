use Rattle.std.proofs.Common.{◌∙◌}
use Rattle.instance_making.specs.Outside.{resource_at}
use Rattle.instance_making.proofs.imports.HostResources.get.Goals as goal

pub returns : goal.returns
unfolding resource_at
returns c = λ ks h. c.get.ensures.value ∙ h.resources c.args.number
