use Rattle.std.proofs.Common.{◌≡◌, ◌∙◌, ◌+◌, ◌∷◌, [], ◌++◌, ap, sym, take}
use Rattle.std.proofs.lemmas.List.{take_more}
use Rattle.comp_facts.specs.Keys.{and_name, and_names}
use Rattle.comp_facts.proofs.KeyLemmas.{names-more}
use Rattle.comp_facts.proofs.keys.and_names.Goals as goal

pub loop-name-preserved : goal.loop-name-preserved
loop-name-preserved c =
    let key = c.args.key in
    let names = c.args.names.now in
    let i = c.loop-name.name-index in
    let x = c.name-item.result in
    let more : take (i + 1) names ≡ take i names ++ x ∷ [] = take_more names i x c.loop-name-test.true ∙ ap (λ y. take i names ++ y ∷ []) (sym c.name-item.is) in
    c.and_name-key.ensures
    ∙ ((λ j. and_name (c.loop-name.invariant j) (c.bytes.ensures.value j))
    ∙ (sym (names-more key (take i names) x) ∙ ap (and_names key) (sym more)))
