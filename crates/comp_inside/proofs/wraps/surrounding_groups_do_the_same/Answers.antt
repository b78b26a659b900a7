use Rattle.comp_inside.proofs.Surrounded.{surrounded}
use Rattle.comp_inside.proofs.wraps.surrounding_groups_do_the_same.Goals as goal

pub returns : goal.returns
returns g c = λ outer inner place e s d calls. surrounded outer inner place e g.H.Host.step s d calls
