use Rattle.std.proofs.Common.{◌≡◌, ◌∙◌, ap, sym, refl, ◌∷◌, ◌++◌, ◌+◌, [], take, Some, None, cond}
use Rattle.std.specs.Option.{option_or}
use Rattle.std.proofs.lemmas.List.{take_more, take_all}
use Rattle.comp_types.specs.Items.{same_name}
use Rattle.comp_link.specs.Linking.{core_find, named_core}
use Rattle.instance_making.proofs.CoreLemmas.{core_last, named_one, named_last}
use Rattle.instance_making.proofs.PushLemmas.{and_core_items}
use Rattle.instance_making.proofs.making.Making.name_core_items.Goals as goal

pub loop-export-preserved : goal.loop-export-preserved
loop-export-preserved c = λ made g h q.
    let x = c.export-item.result in
    let i = c.loop-export.export-index in
    let xs = c.args.exports.now in
    let more : take (i + 1) xs ≡ take i xs ++ x ∷ [] = take_more xs i x c.loop-export-test.true ∙ ap (λ y. take i xs ++ y ∷ []) (sym c.export-item.is) in
    c.in_ok-add.ensures q
    ∙ ((λ j. option_or (c.loop-export.invariant made g h q j) (cond (same_name x.name q) (Some (c.core_item-item.ensures made g h j)) None))
    ∙ (sym (core_last q (named_core g (take i xs)) (named_one g x)) ∙ (ap (core_find q) (sym (named_last g (take i xs) x)) ∙ ap (λ es. core_find q (named_core g es)) (sym more))))

pub returns : goal.returns
returns c = λ made g h. and_core_items made c.args.self.now _ g c.loop-export.items (named_core g c.args.exports.now) h refl c.in_ok-push.ensures.items (λ q. c.loop-export.invariant made g h q ∙ ap (λ es. core_find q (named_core g es)) (take_all c.loop-export.export-index c.args.exports.now c.loop-export-test.false))
