use Rattle.std.proofs.Common.{◌≡◌, ◌+◌, ◌∷◌, [], ◌++◌, take, ap, ◌∙◌, sym}
use Rattle.std.proofs.lemmas.List.{take_more}
use Rattle.wit_types.specs.PlainValue.{values_of}
use Rattle.wit_types.proofs.ValueLemmas.{values_of-push}
use Rattle.wit_types.proofs.value_copies.+copy_value.Goals as goal

pub copy_each-loop-value-preserved : goal.copy_each-loop-value-preserved
copy_each-loop-value-preserved t c =
    let x = c.value-item.result in
    let values = c.args.values.now in
    let i = c.loop-value.value-index in
    let more : take (i + 1) values ≡ take i values ++ x ∷ [] = take_more values i x c.loop-value-test.true ∙ ap (λ y. take i values ++ y ∷ []) (sym c.value-item.is) in
    ap values_of c.in_ok-push.ensures.items
    ∙ values_of-push c.loop-value.items.items (take i values) c.in_ok-copy_value.field-0 x c.loop-value.invariant c.in_ok-copy_value.ensures
    ∙ ap values_of (sym more)
