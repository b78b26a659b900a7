use Rattle.std.proofs.Common.{◌≡◌, ap, sym, subst, Some}
use Rattle.wit_types.specs.Plain.{plain, plain_result}
use Rattle.comp_facts.specs.Facts.{IsAnswerOf}
use Rattle.comp_types.specs.GivenResources.{named_in_answer}
use Rattle.type_table.specs.Tables.{trees, HasAnswer}
use Rattle.type_relations.specs.Searches.{Finds}
use Rattle.type_relations.proofs.SearchLemmas.{finds-nothing}
use Rattle.type_relations.proofs.nodes.add_answer.Goals as goal

pub returns-in-None : goal.returns-in-None
returns-in-None c = λ has. finds-nothing (trees c.args.types.now) c.args.search.now _ (ap (λ o. named_in_answer (plain_result o)) c.in-None.is)

pub add_answered-requires : goal.add_answered-requires
add_answered-requires c = subst (λ o. IsAnswerOf (plain_result o) c.args.facts.now) c.in-Some.is c.requires

pub returns-in_ok-add_answered-in-Some : goal.returns-in_ok-add_answered-in-Some
returns-in_ok-add_answered-in-Some c = λ has.
    subst (λ o. Finds (trees c.args.types.now) c.args.search.now c.add_answered.new.search (named_in_answer (plain_result o))) (sym c.in-Some.is)
    (c.in_ok-add_answered-in-Some.ensures (subst (λ o. HasAnswer c.args.types.now (plain_result o)) c.in-Some.is has))
