use Rattle.std.proofs.Common.{◌∙◌, ap, sym, is_some}
use Rattle.std.specs.Option.{option_copied}
use Rattle.instance_making.specs.Outside.{resource_at}
use Rattle.instance_making.proofs.imports.HostResources.has.Goals as goal

pub returns-in-None : goal.returns-in-None
unfolding resource_at
returns-in-None c = ap is_some (ap option_copied (sym c.in-None.is) ∙ c.get.ensures.value)

pub returns-in-Some : goal.returns-in-Some
unfolding resource_at
returns-in-Some c = ap is_some (ap option_copied (sym c.in-Some.is) ∙ c.get.ensures.value)
