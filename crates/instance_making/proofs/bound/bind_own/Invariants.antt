use Rattle.std.proofs.Common.{drop, ◌++◌}
use Rattle.comp_types.specs.GivenResources.{numbered}
use Rattle.comp_link.specs.Linking.{own_bound}
use Rattle.instance_making.specs.Shown.{SamePartners}
use Rattle.instance_making.proofs.bound.bind_own.Given as goal

abbrev pub invariant-loop-resource : goal.invariant-loop-resource
invariant-loop-resource l = SamePartners (l.resources ++ own_bound l.inner (numbered (drop l.resource-index l.own) l.number)) (l.fn.resources ++ own_bound l.inner (numbered l.own l.first))
