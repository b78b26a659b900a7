use Rattle.comp_interp.proofs.Sounding.{linked_can_be_made}
use Rattle.comp_interp.proofs.laws.spelled_components_can_be_made.Goals as goal

pub returns : goal.returns
returns c = linked_can_be_made
