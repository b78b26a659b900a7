use Rattle.wasi_listed.specs.FsListed.{numbered}
use Rattle.wasi_listed.proofs.fs.interface_of.Goals as goal

pub returns : goal.returns
unfolding numbered
returns c = c.number_named.ensures
