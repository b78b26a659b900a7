use Rattle.std.proofs.Common.{◌≡◌, ◌∙◌, ◌∷◌, ◌++◌, ◌+◌, [], ap, sym, take}
use Rattle.std.proofs.lemmas.List.{take_more}
use Rattle.comp_link.specs.Plans.{NamedArg, named_args}
use Rattle.comp_link.specs.Planned.{args_named}
use Rattle.comp_linking.proofs.NamedLemmas.{args_last, named_last}
use Rattle.comp_linking.proofs.arguments.named_args.Goals as goal

pub loop-item-preserved : goal.loop-item-preserved
loop-item-preserved c = λ s h.
    let x = c.item-item.result in
    let i = c.loop-item.item-index in
    let items = c.args.items.now in
    let arg = c.in_ok-arg.arg in
    let more : take (i + 1) items ≡ take i items ++ x ∷ [] = take_more items i x c.loop-item-test.true ∙ ap (λ y. take i items ++ y ∷ []) (sym c.item-item.is) in
    ap args_named c.in_ok-push.ensures.items
    ∙ (args_last c.loop-item.args.items arg
    ∙ ((λ j. c.loop-item.invariant s h j ++ (let a : NamedArg = record { name = c.in_ok-arg.ensures.name j; item = c.in_ok-arg.ensures.item s h j } in a) ∷ [])
    ∙ (sym (named_last s (take i items) x) ∙ ap (named_args s) (sym more))))
