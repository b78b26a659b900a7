use Rattle.std.proofs.Common.{◌≡◌, ◌-◌, ◌++◌, ◌∙◌, ap, length, take, drop, arith}
use Rattle.std.proofs.lemmas.List.{length-take-le, length-drop, take_at}
use Rattle.overlay_tree.specs.Blocks.{exchanged}
use Rattle.overlay_tree.proofs.BlockLemmas.{length_replaced, turned}
use Rattle.overlay_tree.proofs.blocks.turn.Goals as goal

pub returns : goal.returns
returns c =
    let xs = c.args.order.now.items in
    let all = c.deref_mut.result.now in
    let a = c.args.at in
    let k = c.args.end - c.args.at in
    let new = c.rotate_left.new.self in
    let long : length all ≡ length xs = ap length c.deref_mut.ensures.value in
    let part : length new ≡ k = c.rotate_left.ensures.len ∙ length-take-le k (drop a all) (omega (arith, length-drop a all, long, c.requires.first, c.requires.second, c.requires.within)) in
    let whole = take a all ++ (new ++ drop k (drop a all)) in
    let count : length whole ≡ c.args.order.now.len = length_replaced a k all new part (omega (arith, long, c.requires.first, c.requires.second, c.requires.within)) ∙ c.deref_mut.ensures.len in
    take_at whole (drop (length whole) xs) c.args.order.now.len count ∙ ap (λ ys. take a all ++ (ys ++ drop k (drop a all))) c.rotate_left.ensures.after
    ∙ turned all a c.args.mid c.args.end c.requires.first c.requires.second ∙ ap (λ o. exchanged o a c.args.mid c.args.end) c.deref_mut.ensures.value
