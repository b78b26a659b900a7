use Rattle.call_moments.proofs.Backs.{results_come}
use Rattle.call_moments.proofs.frames.results_come_back.Goals as goal

pub returns : goal.returns
returns g c = λ G. results_come g.H.Host.step G
