use Rattle.std.proofs.Common.{◌∙◌, ap, sym, subst}
use Rattle.wit_types.specs.Plain.{PlainFunc}
use Rattle.comp_facts.specs.Facts.{IsFuncFactsOf}
use Rattle.comp_facts.specs.Keys.{keys_in}
use Rattle.comp_types.specs.GivenResources.{named_in_func}
use Rattle.type_table.specs.Tables.{trees, HasFunc}
use Rattle.type_relations.specs.Searches.{Finds}
use Rattle.type_relations.proofs.SearchLemmas.{finds-nothing}
use Rattle.type_relations.proofs.ValueLemmas.{func-nothing}
use Rattle.type_relations.proofs.nodes.add_known_func.Goals as goal

pub returns-then-not-has_handle : goal.returns-then-not-has_handle
returns-then-not-has_handle c = λ has.
    finds-nothing (trees c.args.types.now) c.args.search.now _ (func-nothing c.args.known.now (sym (c.has_handle.ensures c.args.known.now c.facts-facts.ensures) ∙ c.if-not-has_handle.true))

pub add_func-requires : goal.add_func-requires
add_func-requires c = record {
  keys = c.keys.ensures ∙ ap (λ (f : PlainFunc). keys_in f.params) (sym c.ty.ensures);
  facts = subst (λ (f : PlainFunc). IsFuncFactsOf f c.facts-facts.result.now) (sym c.ty.ensures) c.facts-facts.ensures;
}

pub returns : goal.returns
returns c = λ has.
    subst (λ (f : PlainFunc). Finds (trees c.args.types.now) c.args.search.now c.add_func.new.search (named_in_func f)) c.ty.ensures
    (c.in_ok-add_func.ensures (subst (HasFunc c.args.types.now) (sym c.ty.ensures) has))
