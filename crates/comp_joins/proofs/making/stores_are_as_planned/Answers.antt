use Rattle.comp_joins.proofs.MakingPlaces.{stores_as_planned}
use Rattle.comp_joins.proofs.making.stores_are_as_planned.Goals as goal

pub returns : goal.returns
returns g c = stores_as_planned g.H.Host.step
