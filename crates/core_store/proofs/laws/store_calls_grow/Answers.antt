use Rattle.core_store.proofs.Stores.{calls_grow}
use Rattle.core_store.proofs.laws.store_calls_grow.Goals as goal

pub returns : goal.returns
returns c = calls_grow
