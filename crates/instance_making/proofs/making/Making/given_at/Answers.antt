use Rattle.std.proofs.Common.{◌∙◌, ap, sym, subst, Some}
use Rattle.comp_link.specs.Linking.{GivenResource, given_at}
use Rattle.comp_link.specs.Planned.{item_named}
use Rattle.instance_making.specs.declared.given.Given.TheVariants.{Resource}
use Rattle.instance_making.specs.Made.{IsSame}
use Rattle.instance_making.proofs.PartnerLemmas.{partners_in}
use Rattle.instance_making.proofs.making.Making.given_at.Goals as goal

pub returns-in-Resource : goal.returns-in-Resource
returns-in-Resource c = λ made g h.
    subst (λ t. IsSame made (Some (Resource c.partner.result)) (given_at g (item_named t))) (sym c.in-Resource.is)
    (ap GivenResource (c.partner.ensures ∙ partners_in c.args.self.now.resources g.resources h.resources c.in-Resource.resource))
