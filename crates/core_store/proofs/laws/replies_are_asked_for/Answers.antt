use Rattle.core_store.proofs.Further.{unchanged}
use Rattle.core_store.proofs.laws.replies_are_asked_for.Goals as goal

pub returns : goal.returns
returns c = unchanged
