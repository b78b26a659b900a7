use Rattle.std.proofs.Common.{◌∙◌}
use Rattle.comp_types.specs.Views.{kind_of}
use Rattle.comp_types.specs.GivenResources.{named_in_kind}
use Rattle.type_table.specs.Tables.{trees}
use Rattle.type_relations.proofs.OnceLemmas.{each-of_none}
use Rattle.type_relations.proofs.SearchLemmas.{finds-fresh}
use Rattle.type_relations.proofs.items.resources_of_kind.Goals as goal

pub returns : goal.returns
returns c = λ has.
    let named = named_in_kind (kind_of c.args.kind.now) in
    finds-fresh (trees c.args.types.now) c.new-search.result c.add_kind.new.search named c.new-search.ensures.found c.new-search.ensures.searched (c.in_ok-add_kind.ensures has) ∙ each-of_none named
