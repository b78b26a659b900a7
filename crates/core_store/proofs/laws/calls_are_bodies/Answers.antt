use Rattle.core_store.proofs.Steps.{go_enter}
use Rattle.core_store.proofs.laws.calls_are_bodies.Goals as goal

pub returns : goal.returns
returns c = go_enter
