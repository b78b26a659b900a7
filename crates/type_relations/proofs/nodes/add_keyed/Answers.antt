use Rattle.std.proofs.Common.{refl}
use Rattle.wit_types.specs.Plain.{plain}
use Rattle.comp_types.specs.GivenResources.{named_in_value}
use Rattle.type_table.specs.Tables.{trees}
use Rattle.type_relations.proofs.SearchLemmas.{finds-written}
use Rattle.type_relations.proofs.nodes.add_keyed.Goals as goal

pub returns-in_ok-add_value-in-None : goal.returns-in_ok-add_value-in-None
returns-in_ok-add_value-in-None c = λ has.
    let old = c.args.search.now in
    finds-written (trees c.args.types.now) old (record old { found = c.add_value.new.found }) (named_in_value (plain c.args.ty.now)) c.in_ok-add_value-in-None.ensures refl

pub returns-in_ok-add_node-in-Some : goal.returns-in_ok-add_node-in-Some
returns-in_ok-add_node-in-Some c = λ has. c.in_ok-add_node-in-Some.ensures has.0 (plain c.args.ty.now) (c.in-Some.ensures.one c.requires has)
