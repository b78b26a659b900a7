use Rattle.std.proofs.Common.{◌∙◌, ap, sym, subst}
use Rattle.comp_facts.specs.Keys.{key_of}
use Rattle.comp_types.specs.GivenResources.{named_in_value}
use Rattle.type_table.specs.Tables.{trees, Has}
use Rattle.type_relations.specs.Searches.{Finds}
use Rattle.type_relations.proofs.SearchLemmas.{finds-nothing}
use Rattle.type_relations.proofs.ValueLemmas.{value-nothing}
use Rattle.type_relations.proofs.nodes.add_known_value.Goals as goal

pub returns-then-not-facts : goal.returns-then-not-facts
returns-then-not-facts c = λ has.
    finds-nothing (trees c.args.types.now) c.args.search.now _ (value-nothing c.args.known.now (sym c.facts-facts.ensures.handles ∙ c.if-not-facts.true))

pub add_keyed-requires : goal.add_keyed-requires
add_keyed-requires c = c.facts-facts.ensures.key ∙ ap key_of (sym c.ty.ensures)

pub returns : goal.returns
returns c = λ has.
    subst (λ p. Finds (trees c.args.types.now) c.args.search.now c.add_keyed.new.search (named_in_value p)) c.ty.ensures
    (c.in_ok-add_keyed.ensures (subst (Has c.args.types.now) (sym c.ty.ensures) has))
