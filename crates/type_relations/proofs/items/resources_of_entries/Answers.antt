use Rattle.std.proofs.Common.{◌∙◌, ap, sym, subst}
use Rattle.comp_types.specs.Items.{Entries}
use Rattle.comp_types.specs.GivenResources.{named_in}
use Rattle.type_table.specs.Tables.{trees, HasEntries}
use Rattle.type_relations.specs.Searches.{Finds}
use Rattle.type_relations.proofs.OnceLemmas.{each-of_none}
use Rattle.type_relations.proofs.SearchLemmas.{finds-fresh}
use Rattle.type_relations.proofs.items.resources_of_entries.Goals as goal

pub returns : goal.returns
returns c = λ has.
    let types = c.args.types.now in
    let start = c.new-search.result in
    let end = c.add_slice.new.search in
    let named = named_in c.args.entries.now in
    finds-fresh (trees types) start end named c.new-search.ensures.found c.new-search.ensures.searched
    (subst (λ (es : Entries). Finds (trees types) start end (named_in es)) c.as_slice.ensures (c.in_ok-add_slice.ensures (subst (HasEntries types) (sym c.as_slice.ensures) has)))
    ∙ each-of_none named
