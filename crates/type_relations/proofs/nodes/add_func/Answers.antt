use Rattle.std.proofs.Common.{◌≡◌, ◌∙◌, ap, sym, subst}
use Rattle.wit_types.specs.Plain.{Parts, plain_func, plain_result, fields_of}
use Rattle.comp_facts.specs.Keys.{keys_in}
use Rattle.comp_types.specs.GivenResources.{named_in_parts, named_in_answer}
use Rattle.type_table.specs.Tables.{trees, HasParts}
use Rattle.type_relations.specs.Searches.{Finds}
use Rattle.type_relations.proofs.SearchLemmas.{finds-both}
use Rattle.type_relations.proofs.nodes.add_func.Goals as goal

pub add_params-requires : goal.add_params-requires
add_params-requires c =
    let is : fields_of c.as_slice.result.now ≡ (plain_func c.args.ty.now).params = ap fields_of c.as_slice.ensures.value in
    c.requires.keys ∙ ap keys_in (sym is)

pub returns : goal.returns
returns c = λ has.
    let types = c.args.types.now in
    let ty = plain_func c.args.ty.now in
    let old = c.args.search.now in
    let mid = c.add_params.new.search in
    let is : fields_of c.as_slice.result.now ≡ ty.params = ap fields_of c.as_slice.ensures.value in
    let params : Finds (trees types) old mid (named_in_parts ty.params) =
    subst (λ (ps : Parts). Finds (trees types) old mid (named_in_parts ps)) is (c.in_ok-add_params.ensures (subst (HasParts types) (sym is) has.0)) in
    finds-both (trees types) old mid c.add_answer.new.search (named_in_parts ty.params) (named_in_answer ty.answer) params (c.in_ok-add_answer.ensures has.1)
