use Rattle.std.proofs.Common.{◌≡◌, ◌∙◌, ap, refl, sym, [], Some}
use Rattle.std.specs.Prelude.{option_map}
use Rattle.wit_types.specs.Plain.{plain}
use Rattle.comp_types.specs.GivenResources.{named_in_answer}
use Rattle.type_relations.specs.Once.{and_each}
use Rattle.type_relations.proofs.SearchLemmas.{finds-nothing, finds-written}
use Rattle.type_relations.proofs.nodes.add_written.Goals as goal

pub returns-in-None : goal.returns-in-None
returns-in-None c = λ tys. finds-nothing tys c.args.search.now _ (ap (λ o. named_in_answer (option_map (λ (x : _). plain x.now) o)) c.in-None.is)

pub returns-in_ok-add_value-in-Some : goal.returns-in_ok-add_value-in-Some
returns-in_ok-add_value-in-Some c = λ tys.
    let old = c.args.search.now in
    finds-written tys old (record old { found = c.add_value.new.found }) (named_in_answer (option_map (λ (x : _). plain x.now) c.args.ty))
    (c.in_ok-add_value-in-Some.ensures ∙ ap (λ o. and_each old.found (named_in_answer (option_map (λ (x : _). plain x.now) o))) (sym c.in-Some.is)) refl
