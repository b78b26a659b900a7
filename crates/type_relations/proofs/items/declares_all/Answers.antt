use Rattle.std.proofs.Common.{◌∙◌, ap, not}
use Rattle.comp_types.specs.GivenResources.{without, named_in}
use Rattle.comp_types.specs.Rules.{is_filled}
use Rattle.type_table.specs.Tables.{trees}
use Rattle.type_relations.proofs.OnceLemmas.{each-of_none, filled-distinct}
use Rattle.type_relations.proofs.SearchLemmas.{finds-fresh}
use Rattle.type_relations.proofs.items.declares_all.Goals as goal

pub returns : goal.returns
returns c = λ has.
    let named = without c.args.ty.now.own (named_in c.args.ty.now.instance.value.entries) in
    c.is_empty.ensures
    ∙ (ap (λ rs. not (is_filled rs))
    (finds-fresh (trees c.args.types.now) c.new-search.result c.add_declared.new.search named c.new-search.ensures.found c.new-search.ensures.searched (c.in_ok-add_declared.ensures has) ∙ each-of_none named)
    ∙ ap not (filled-distinct named))
