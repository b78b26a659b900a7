use Rattle.core_store.proofs.Stores.{grew_self, grew_on, back_self, back_on}
use Rattle.core_store.proofs.laws.growth_adds_up.Goals as goal

pub returns-clause-grew_alone : goal.returns-clause-grew_alone
returns-clause-grew_alone c = grew_self

pub returns-clause-grew_on : goal.returns-clause-grew_on
returns-clause-grew_on c = grew_on

pub returns-clause-back_alone : goal.returns-clause-back_alone
returns-clause-back_alone c = back_self

pub returns-clause-back_on : goal.returns-clause-back_on
returns-clause-back_on c = back_on
