use Rattle.comp_worlds.specs.Hosts.{hosted}
use Rattle.comp_worlds.proofs.Fair.{host_fair}
use Rattle.comp_frames.proofs.Unfolding.{unfolds}
use Rattle.comp_frames.proofs.Going.{goes_by_its_rest}
use Rattle.adapter_calls.proofs.Hosting.{hosts_answer_law}
use Rattle.adapter_calls.proofs.laws.hosts_answer.Goals as goal

pub returns : goal.returns
returns g c =
    hosts_answer_law g.H.Host.step (λ G. unfolds G (hosted g.H.Host.step) (host_fair g.H.Host.step)) (λ G. goes_by_its_rest G (hosted g.H.Host.step) (host_fair g.H.Host.step))
