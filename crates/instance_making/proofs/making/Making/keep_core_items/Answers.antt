use Rattle.std.proofs.Common.{◌≡◌, ◌∙◌, ap, sym, refl, ◌∷◌, ◌++◌, ◌+◌, [], take, Some, None, cond}
use Rattle.std.specs.Option.{option_or}
use Rattle.std.proofs.lemmas.List.{take_more, take_all}
use Rattle.comp_types.specs.Items.{same_name}
use Rattle.comp_link.specs.Linking.{core_find}
use Rattle.instance_making.proofs.CoreLemmas.{core_last}
use Rattle.instance_making.proofs.PushLemmas.{and_core_items}
use Rattle.instance_making.proofs.making.Making.keep_core_items.Goals as goal

pub loop-export-preserved : goal.loop-export-preserved
loop-export-preserved c = λ q.
    let x = c.export-item.result in
    let i = c.loop-export.export-index in
    let xs = c.args.exports.now in
    let more : take (i + 1) xs ≡ take i xs ++ x ∷ [] = take_more xs i x c.loop-export-test.true ∙ ap (λ y. take i xs ++ y ∷ []) (sym c.export-item.is) in
    c.in_ok-add.ensures q ∙ (ap (λ o. option_or o (cond (same_name x.name q) (Some x.item) None)) (c.loop-export.invariant q) ∙ (sym (core_last q (take i xs) x) ∙ ap (core_find q) (sym more)))

pub returns : goal.returns
returns c = λ made g h. and_core_items made c.args.self.now _ g c.loop-export.items c.args.exports.now h refl c.in_ok-push.ensures.items (λ q. c.loop-export.invariant q ∙ ap (core_find q) (take_all c.loop-export.export-index c.args.exports.now c.loop-export-test.false))
