use Rattle.std.proofs.Common.{◌∙◌, ap}
use Rattle.comp_types.specs.GivenResources.{without}
use Rattle.comp_instances.proofs.numbering.own_resources.Goals as goal

pub returns : goal.returns
returns c = λ has rs h. c.in_ok-own.ensures rs h ∙ ap (without rs) (c.as_slice.ensures ∙ c.in_ok-found.ensures has)
