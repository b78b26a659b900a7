use Rattle.std.proofs.Common.{◌∙◌, ap, sym}
use Rattle.comp_types.proofs.PairLemmas.{partner-or, partner_or}
use Rattle.comp_types.proofs.substitution.Substitution.partner.Goals as goal

pub returns-in-Some : goal.returns-in-Some
returns-in-Some c = sym (partner-or c.args.self.now c.args.resource ∙ ap (partner_or c.args.resource) (sym c.partner_of.ensures ∙ c.in-Some.is))

pub returns-in-None : goal.returns-in-None
returns-in-None c = sym (partner-or c.args.self.now c.args.resource ∙ ap (partner_or c.args.resource) (sym c.partner_of.ensures ∙ c.in-None.is))
