use Rattle.wasi_listed.specs.IoListed.{numbered}
use Rattle.wasi_listed.proofs.io.interface_of.Goals as goal

pub returns : goal.returns
unfolding numbered
returns c = c.number_named.ensures
