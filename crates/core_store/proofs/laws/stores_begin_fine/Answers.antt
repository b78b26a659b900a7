use Rattle.core_store.proofs.Starting.{empty_fine, outside_fine}
use Rattle.core_store.proofs.laws.stores_begin_fine.Goals as goal

pub returns-clause-empty : goal.returns-clause-empty
returns-clause-empty c = empty_fine

pub returns-clause-outside : goal.returns-clause-outside
returns-clause-outside c = outside_fine
