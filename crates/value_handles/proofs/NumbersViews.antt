-- Types and values by their trees.
use Rattle.wit_types.proofs.PlainLemmas.{plains}
use Rattle.wit_types.proofs.ValueLemmas.{values}
use Rattle.value_handles.proofs.Laws.{laws}
use Rattle.value_handles.proofs.Changes.{changed}

pub ruleset changes = (plains, values, laws, changed)
