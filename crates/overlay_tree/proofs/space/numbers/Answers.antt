use Rattle.std.proofs.Common.{◌≡◌, ◌+◌, ◌≤◌, ◌<◌, ◌∙◌, [], ◌∷◌, ◌++◌, ap, sym, subst, All, length, arith}
use Rattle.std.proofs.lemmas.Grind.{common_steps}
use Rattle.std.proofs.lemmas.List.{length_push}
use Rattle.overlay_tree.specs.Blocks.{times}
use Rattle.overlay_tree.proofs.BlockLemmas.{once_more, inside_more}
use Rattle.overlay_tree.proofs.space.numbers.Goals as goal

pub loop-number-preserved : goal.loop-number-preserved
loop-number-preserved c =
    let before = c.loop-number.order.items in
    let n = c.loop-number.number in
    let pushed : c.push_reserved.new.self.items ≡ before ++ n ∷ [] = c.push_reserved.ensures.items in
    record {
      count = ap length pushed ∙ length_push before n ∙ ap (λ k. k + 1) c.loop-number.invariant.count;
      inside = subst (All (λ k. k < n + 1)) (sym pushed) (inside_more before n (n + 1) (omega arith) c.loop-number.invariant.inside);
      once = λ k. subst (λ o. times k o ≤ 1) (sym pushed) (once_more before n k c.loop-number.invariant.inside (c.loop-number.invariant.once k));
      len = grind (arith, common_steps);
      room = grind (arith, common_steps);
    }
