use Rattle.core_store.proofs.Stores.{stores_back}
use Rattle.core_store.proofs.laws.stores_come_back.Goals as goal

pub returns : goal.returns
returns c = stores_back
