use Rattle.comp_joins.proofs.Spelled.{spelled_count}
use Rattle.comp_joins.proofs.sound.spelled_components_have_counts.Goals as goal

pub returns : goal.returns
returns c = spelled_count
