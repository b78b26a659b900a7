use Rattle.comp_link.proofs.Spelled.{spelled_define}
use Rattle.comp_link.proofs.exports.spelled_components_define_types.Goals as goal

pub returns : goal.returns
returns c = spelled_define
