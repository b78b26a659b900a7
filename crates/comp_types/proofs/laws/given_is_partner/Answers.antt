use Rattle.comp_types.proofs.GivenLaws as laws
use Rattle.comp_types.proofs.laws.given_is_partner.Goals as goal

pub returns : goal.returns
returns c = laws.given_is_partner
