use Rattle.call_moments.proofs.Backs.{code_begins_inside}
use Rattle.call_moments.proofs.frames.code_begins_inside.Goals as goal

pub returns : goal.returns
returns g c = λ G. code_begins_inside g.H.Host.step G
