use Rattle.std.proofs.Common.{◌≡◌, [], drop}
use Rattle.type_relations.specs.Once.{and_each}
use Rattle.type_relations.proofs.resources.Resources.of.Given as goal

abbrev pub invariant-loop-resource : goal.invariant-loop-resource
invariant-loop-resource l = and_each [] l.list ≡ and_each l.all (drop l.resource-index l.list)
