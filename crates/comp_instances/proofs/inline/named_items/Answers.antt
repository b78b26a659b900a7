use Rattle.std.proofs.Common.{◌≡◌, ◌∙◌, ◌∷◌, ◌++◌, ◌+◌, [], ap, sym, take}
use Rattle.std.proofs.lemmas.List.{take_more}
use Rattle.comp_types.specs.Added.{and_some_entry, named_items}
use Rattle.comp_types.specs.Spaces.{item_at}
use Rattle.comp_instances.proofs.NamedLemmas.{named-last}
use Rattle.comp_instances.proofs.inline.named_items.Goals as goal

pub loop-item-preserved : goal.loop-item-preserved
loop-item-preserved c = λ s h.
    let x = c.item-item.result in
    let i = c.loop-item.item-index in
    let items = c.args.items.now in
    let more : take (i + 1) items ≡ take i items ++ x ∷ [] = take_more items i x c.loop-item-test.true ∙ ap (λ y. take i items ++ y ∷ []) (sym c.item-item.is) in
    c.in_ok-push_named.ensures
    ∙ (ap (and_some_entry c.loop-item.entries x.name) (c.in_ok-found.ensures s h)
    ∙ (ap (λ es. and_some_entry es x.name (item_at s x.sort x.index)) (c.loop-item.invariant s h) ∙ (sym (named-last s (take i items) x) ∙ ap (named_items s) (sym more))))
