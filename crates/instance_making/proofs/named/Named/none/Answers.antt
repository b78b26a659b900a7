use Rattle.std.proofs.Common.{rules}
use Rattle.instance_making.specs.Named.{found}
use Rattle.instance_making.proofs.named.Named.none.Goals as goal

pub returns : goal.returns
unfolding found
returns g c = search rules
