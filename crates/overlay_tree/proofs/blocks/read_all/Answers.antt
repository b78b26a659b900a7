use Rattle.std.proofs.Common.{◌≡◌, ◌+◌, ◌-◌, ◌≤◌, ◌∙◌, ap, sym, refl, length, take, drop, arith}
use Rattle.overlay_tree.specs.Blocks.{in_order}
use Rattle.overlay_tree.proofs.BlockLemmas.{read_turn, length_replaced, take_replaced, part_of, take_whole}
use Rattle.overlay_tree.proofs.blocks.read_all.Goals as goal

pub loop-done-init : goal.loop-done-init
loop-done-init c = record { within = omega arith; long = refl; read = refl }

pub loop-done-preserved : goal.loop-done-preserved
loop-done-preserved c =
    let xs = in_order c.args.order.now c.args.bytes.now in
    let out = c.loop-done.out in
    let done = c.loop-done.done in
    let count = c.min-count.result in
    let total = done + count in
    let part = c.read_part.new.out in
    let within : total ≤ length out = omega arith in
    let size : length (take (total - done) (drop done out)) ≡ count = part_of out done count total refl within in
    let is_part : part ≡ take count (drop (c.args.at + done) xs) = c.read_part.ensures.read ∙ ap (λ k. take k (drop (c.args.at + done) xs)) size in
    let long : length part ≡ count = c.read_part.ensures.len ∙ size in
    let kept = length_replaced done (total - done) out part (omega (arith, long)) (omega (arith, within)) in
    record {
      within = omega (arith, kept, within);
      long = kept ∙ c.loop-done.invariant.long;
      read = read_turn xs out _ part c.args.at done count total refl c.loop-done.invariant.read is_part (take_replaced done (total - done) total out part (omega (arith, long)) (omega (arith, within)));
    }

pub returns : goal.returns
returns c =
    let xs = in_order c.args.order.now c.args.bytes.now in
    let whole : c.loop-done.done ≡ length c.loop-done.out = omega arith in
    sym (take_whole c.loop-done.out c.loop-done.done whole) ∙ c.loop-done.invariant.read ∙ ap (λ k. take k (drop c.args.at xs)) (whole ∙ c.loop-done.invariant.long)
