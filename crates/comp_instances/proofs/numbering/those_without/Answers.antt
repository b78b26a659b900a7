use Rattle.std.proofs.Common.{◌∙◌, ◌++◌, ◌∷◌, ◌+◌, [], ap, get_or, drop, sym, append_assoc}
use Rattle.std.proofs.lemmas.List.{drop_more}
use Rattle.comp_types.specs.GivenResources.{without}
use Rattle.comp_instances.proofs.NumberLemmas.{without-one}
use Rattle.comp_instances.proofs.numbering.those_without.Goals as goal

pub loop-number-preserved : goal.loop-number-preserved
loop-number-preserved c = λ rs h.
    let these = c.args.these.now in
    let i = c.loop-number.number-index in
    let x = get_or these i 0 in
    let rest = drop (i + 1) these in
    let old = c.loop-number.own in
    ap (λ ys. ys ++ without rs rest) (c.in_ok-push_unless.ensures rs h)
    ∙ (append_assoc old (without rs (x ∷ [])) (without rs rest)
    ∙ (ap (λ ys. old ++ ys) (without-one rs x rest) ∙ (ap (λ ys. old ++ without rs ys) (sym (drop_more these i 0 c.loop-number-test.true)) ∙ c.loop-number.invariant rs h)))
