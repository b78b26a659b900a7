use Rattle.core_store.proofs.Further.{further}
use Rattle.core_store.proofs.Steps.{within}
use Rattle.core_store.proofs.laws.steps_are_counted.Goals as goal

pub returns-clause-further : goal.returns-clause-further
returns-clause-further c = further

pub returns-clause-within : goal.returns-clause-within
returns-clause-within c = within
