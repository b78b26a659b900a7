use Rattle.std.proofs.Common.{◌∙◌}
use Rattle.instance_making.proofs.PartnerLemmas.{partners_in}
use Rattle.instance_making.proofs.making.Making.resource.Goals as goal

pub returns : goal.returns
returns c = λ made g h. c.partner.ensures ∙ partners_in c.args.self.now.resources g.resources h.resources c.args.resource
