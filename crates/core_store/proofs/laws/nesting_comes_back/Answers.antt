use Rattle.core_store.proofs.Stores.{nesting_back}
use Rattle.core_store.proofs.laws.nesting_comes_back.Goals as goal

pub returns : goal.returns
returns c = nesting_back
