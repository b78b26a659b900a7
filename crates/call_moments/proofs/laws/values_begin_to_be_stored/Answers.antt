use Rattle.call_moments.proofs.Worlds.{stores_begin}
use Rattle.call_moments.proofs.laws.values_begin_to_be_stored.Goals as goal

pub returns : goal.returns
returns g c = stores_begin g.H.Host.step
