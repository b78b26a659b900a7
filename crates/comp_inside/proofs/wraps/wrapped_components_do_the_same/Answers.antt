use Rattle.comp_inside.proofs.Seen.{wrapped_do_same}
use Rattle.comp_inside.proofs.wraps.wrapped_components_do_the_same.Goals as goal

pub returns : goal.returns
returns g c = wrapped_do_same g.H.Host.step
