use Rattle.comp_joins.proofs.Known.{names_known}
use Rattle.comp_joins.proofs.knows.valid_components_know_what_they_name.Goals as goal

pub returns : goal.returns
returns c = names_known
