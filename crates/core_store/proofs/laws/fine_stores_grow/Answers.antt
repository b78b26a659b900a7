use Rattle.core_store.proofs.Growing.{fine_store}
use Rattle.core_store.proofs.laws.fine_stores_grow.Goals as goal

pub returns : goal.returns
returns c = fine_store
