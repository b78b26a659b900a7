use Rattle.core_store.proofs.Steps.{go_turn}
use Rattle.core_store.proofs.laws.turns_are_bodies.Goals as goal

pub returns : goal.returns
returns c = go_turn
