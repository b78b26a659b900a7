use Rattle.std.proofs.Common.{ap, refl, nat_eq}
use Rattle.std.specs.Map.{lookup}
use Rattle.instance_making.specs.Outside.{resource_at}
use Rattle.instance_making.proofs.imports.HostResources.none.Goals as goal

pub returns : goal.returns
unfolding resource_at
returns c = record { behind = refl; resources = λ r. ap (lookup (nat_eq r)) c.new.ensures.empty }
