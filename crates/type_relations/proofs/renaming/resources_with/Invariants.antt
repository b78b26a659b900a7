use Rattle.std.proofs.Common.{◌≡◌, take, map}
use Rattle.comp_types.specs.Substitution.{partner_in}
use Rattle.type_relations.proofs.renaming.resources_with.Given as goal

abbrev pub invariant-loop-resource : goal.invariant-loop-resource
invariant-loop-resource l = l.new ≡ map (partner_in l.making.by) (take l.resource-index l.own)
