use Rattle.call_moments.proofs.LawsStoring.{stores_stay, stores_grow, stores_left}
use Rattle.call_moments.proofs.keeping.stores_are_kept.Goals as goal

pub returns-clause-stay : goal.returns-clause-stay
returns-clause-stay c = stores_stay

pub returns-clause-grow : goal.returns-clause-grow
returns-clause-grow c = stores_grow

pub returns-clause-left : goal.returns-clause-left
returns-clause-left c = stores_left
