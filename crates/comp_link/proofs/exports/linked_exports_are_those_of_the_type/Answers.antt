use Rattle.comp_link.proofs.Made.{exports_linked}
use Rattle.comp_link.proofs.exports.linked_exports_are_those_of_the_type.Goals as goal

pub returns : goal.returns
returns c = exports_linked
