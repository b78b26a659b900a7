use Rattle.comp_worlds.specs.Hosts.{hosted}
use Rattle.comp_worlds.proofs.Fair.{host_fair}
use Rattle.comp_frames.proofs.Unfolding.{unfolds}
use Rattle.comp_frames.proofs.Going.{goes_by_its_rest}
use Rattle.adapter_calls.proofs.Storing.{lowers_by_room}
use Rattle.adapter_calls.proofs.laws.lowering_in_a_call_goes_by_the_area.Goals as goal

pub returns : goal.returns
returns g c =
    lowers_by_room g.H.Host.step (λ G. unfolds G (hosted g.H.Host.step) (host_fair g.H.Host.step)) (λ G. goes_by_its_rest G (hosted g.H.Host.step) (host_fair g.H.Host.step))
