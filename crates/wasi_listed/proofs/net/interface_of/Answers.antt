use Rattle.wasi_listed.specs.NetListed.{numbered}
use Rattle.wasi_listed.proofs.net.interface_of.Goals as goal

pub returns : goal.returns
unfolding numbered
returns c = c.number_named.ensures
