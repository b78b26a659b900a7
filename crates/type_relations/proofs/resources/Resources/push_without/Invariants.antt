use Rattle.std.proofs.Common.{◌≡◌, drop}
use Rattle.comp_types.specs.GivenResources.{without}
use Rattle.type_relations.specs.Once.{and_each}
use Rattle.type_relations.proofs.resources.Resources.push_without.Given as goal

abbrev pub invariant-loop-resource : goal.invariant-loop-resource
invariant-loop-resource l = and_each l.fn.self (without l.others l.these) ≡ and_each l.self (without l.others (drop l.resource-index l.these))
