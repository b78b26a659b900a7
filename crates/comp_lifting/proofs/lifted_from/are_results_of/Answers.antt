use Rattle.std.proofs.Common.{◌∙◌, ◌≤◌, ap, sym, subst, arith}
use Rattle.std.specs.Prelude.{IfSome}
use Rattle.std.specs.Cmp.Lexicographic.{pointwise}
use Rattle.abi_layout.specs.Functions.{flat_result}
use Rattle.comp_types.specs.CoreMatching.{same_core}
use Rattle.comp_lifting.proofs.CanonsCanonLemmas.{results-one, results-flat, flat-is, none-results, some-results, same-none}
use Rattle.comp_lifting.proofs.lifted_from.are_results_of.Goals as goal

pub returns-then-result_spills : goal.returns-then-result_spills
returns-then-result_spills c = λ t h.
    c.is_one_number.ensures ∙ ap (pointwise same_core c.args.types.now) (sym (results-one t (sym (c.result_spills.ensures.spills t h) ∙ c.if-result_spills.true)))

pub returns-in-None : goal.returns-in-None
returns-in-None c = λ t h.
    c.is_empty.ensures ∙ (sym (same-none c.args.types.now) ∙ ap (pointwise same_core c.args.types.now)
    (sym (results-flat t (sym (c.result_spills.ensures.spills t h) ∙ c.if-result_spills.false) ∙ none-results t c.args.ty.now h c.in-None.is)))

pub returns-in-Some : goal.returns-in-Some
returns-in-Some c = λ t h.
    let small = subst (λ o. IfSome o (λ a. a.flat.count ≤ 1)) c.in-Some.is (c.result_spills.ensures.few c.if-result_spills.false) in
    let few : c.in-Some.answer.flat.count ≤ 16 = omega (arith, small) in
    c.same_types.ensures ∙ ap (pointwise same_core c.args.types.now)
    (flat-is c.in-Some.answer.flat (flat_result t.answer) (some-results t c.args.ty.now c.in-Some.answer h c.in-Some.is) few
    ∙ sym (results-flat t (sym (c.result_spills.ensures.spills t h) ∙ c.if-result_spills.false)))
