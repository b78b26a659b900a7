use Rattle.std.proofs.Common.{◌<◌, ◌*◌, ◌∙◌, ℕ, All, ap, sym, subst, length, arith}
use Rattle.std.proofs.lemmas.List.{length-replicate}
use Rattle.std.specs.Prelude.{replicate}
use Rattle.overlay_tree.specs.Blocks.{in_order}
use Rattle.overlay_tree.proofs.BlockLemmas.{order_of_zeros}
use Rattle.overlay_tree.proofs.space.Space.new.Goals as goal

pub invariant_of-result : goal.invariant_of-result
invariant_of-result c = record {
  whole = ap length c.in_ok-bytes.ensures ∙ length-replicate {A = ℕ} (c.args.blocks * 4096) 0 ∙ ap (λ n. n * 4096) (sym c.in_ok-order.ensures.count);
  inside = subst (λ n. All (λ k. k < n) c.in_ok-order.order.items) (sym c.in_ok-order.ensures.count) c.in_ok-order.ensures.inside;
  once = c.in_ok-order.ensures.once;
  few = omega (arith, c.in_ok-order.ensures.count, c.ranges.blocks.fits);
}

pub returns : goal.returns
returns c =
    ap (in_order c.in_ok-order.order.items) c.in_ok-bytes.ensures ∙ order_of_zeros c.in_ok-order.order.items c.args.blocks c.in_ok-order.ensures.inside ∙ ap (λ n. replicate (n * 4096) 0) c.in_ok-order.ensures.count
