use Rattle.comp_joins.proofs.Gains.{two_steps_more}
use Rattle.comp_joins.proofs.laws.steps_of_making_are_counted.Goals as goal

pub returns : goal.returns
returns g c = λ lower upper groups s d calls. two_steps_more lower upper groups g.H.Host.step s d calls
