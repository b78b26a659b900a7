-- Types and values by their trees.
use Rattle.wit_types.proofs.PlainLemmas.{plains}
use Rattle.wit_types.proofs.ValueLemmas.{values}
use Rattle.value_handles.proofs.Laws.{laws}

pub ruleset views = (plains, values, laws)
