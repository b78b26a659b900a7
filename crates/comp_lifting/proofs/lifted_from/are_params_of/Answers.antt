use Rattle.std.proofs.Common.{◌∙◌, ◌≤◌, ap, sym, arith}
use Rattle.std.specs.Cmp.Lexicographic.{pointwise}
use Rattle.std.proofs.lemmas.Bool.Decides.{nat_tests}
use Rattle.wit_types.specs.Layout.{flat_fields}
use Rattle.comp_types.specs.CoreMatching.{same_core}
use Rattle.comp_lifting.proofs.CanonsCanonLemmas.{params-one, params-flat, flat-is}
use Rattle.comp_lifting.proofs.lifted_from.are_params_of.Goals as goal

pub returns-then-params_spill : goal.returns-then-params_spill
returns-then-params_spill c = λ t h.
    c.is_one_number.ensures ∙ ap (pointwise same_core c.args.types.now) (sym (params-one t (sym (c.params_spill.ensures.spills t h) ∙ c.if-params_spill.true)))

pub returns : goal.returns
returns c = λ t h.
    let few : c.args.ty.now.params.fields.count ≤ 16 = grind (arith, nat_tests, c.params_spill.ensures.many, c.if-params_spill.false) in
    c.same_types.ensures ∙ ap (pointwise same_core c.args.types.now)
    (flat-is c.args.ty.now.params.fields (flat_fields t.params) h.params.fields few ∙ sym (params-flat t (sym (c.params_spill.ensures.spills t h) ∙ c.if-params_spill.false)))
