use Rattle.abi_layout.proofs.HandleLaws.{handles_keep, types_keep}
use Rattle.abi_layout.proofs.laws.renumbered_values_keep.Goals as goal

pub returns-clause-handles : goal.returns-clause-handles
returns-clause-handles c = handles_keep

pub returns-clause-types : goal.returns-clause-types
returns-clause-types c = types_keep
