use Rattle.abi_layout.proofs.TypeLaws.{loads_typed, lifts_typed}
use Rattle.abi_layout.proofs.laws.loaded_values_have_types.Goals as goal

pub returns-clause-memory : goal.returns-clause-memory
returns-clause-memory c = loads_typed

pub returns-clause-flat : goal.returns-clause-flat
returns-clause-flat c = lifts_typed
