use Rattle.std.proofs.Common.{◌≡◌, ◌∙◌, ap, sym, subst, ◌∷◌, ◌++◌, ◌+◌, [], take}
use Rattle.std.proofs.lemmas.List.{take_more, take_all}
use Rattle.comp_link.specs.Linking.{find, given_at, givens_of}
use Rattle.comp_link.specs.Planned.{item_named, args_named}
use Rattle.instance_making.specs.Made.{Holds}
use Rattle.instance_making.proofs.FoundLemmas.{holds_with, givens_last}
use Rattle.instance_making.proofs.making.Making.givens_of.Goals as goal

pub loop-arg-preserved : goal.loop-arg-preserved
loop-arg-preserved c = λ made g h.
    let x = c.arg-item.result in
    let i = c.loop-arg.arg-index in
    let xs = c.args.args.now in
    let more : take (i + 1) xs ≡ take i xs ++ x ∷ [] = take_more xs i x c.loop-arg-test.true ∙ ap (λ y. take i xs ++ y ∷ []) (sym c.arg-item.is) in
    holds_with made c.loop-arg.givens _ (givens_of g (args_named (take i xs))) (givens_of g (args_named (take (i + 1) xs))) x.name c.in_ok-item.item (given_at g (item_named x.item))
    (c.loop-arg.invariant made g h) (c.in_ok-item.ensures made g h) c.in_ok-add_some.ensures
    (λ q. ap (λ ys. find q (givens_of g (args_named ys))) more ∙ givens_last q g (take i xs) x)

pub returns : goal.returns
returns c = λ made g h. subst (λ ys. Holds made c.loop-arg.givens (givens_of g (args_named ys))) (take_all c.loop-arg.arg-index c.args.args.now c.loop-arg-test.false) (c.loop-arg.invariant made g h)
