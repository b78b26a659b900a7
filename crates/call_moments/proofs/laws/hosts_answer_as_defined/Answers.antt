use Rattle.call_moments.proofs.Answers.{hosts_answer}
use Rattle.call_moments.proofs.laws.hosts_answer_as_defined.Goals as goal

pub returns : goal.returns
returns g c = hosts_answer g.H.Host.step
