use Rattle.std.proofs.Common.{◌+◌, refl, arith}
use Rattle.overlay_tree.specs.Blocks.{in_order}
use Rattle.overlay_tree.proofs.BlockLemmas.{space_long, splice_none, write_turn}
use Rattle.overlay_tree.proofs.blocks.write_all.Goals as goal

pub loop-done-init : goal.loop-done-init
loop-done-init c = record { within = omega arith; space = c.requires.space; bytes = splice_none (in_order c.args.order.now c.args.bytes.now.items) c.args.at _ (omega arith) }

pub loop-done-preserved : goal.loop-done-preserved
loop-done-preserved c =
    let long = space_long c.args.order.now c.args.bytes.now.items c.requires.space in
    record {
      within = omega arith;
      space = c.write_part.ensures.space;
      bytes = write_turn (in_order c.args.order.now c.args.bytes.now.items) (in_order c.args.order.now c.loop-done.bytes.items) (in_order c.args.order.now c.write_part.new.bytes.items) c.args.new.now _ c.args.at c.loop-done.done c.min-count.result (c.loop-done.done + c.min-count.result)
          refl (omega arith) refl (omega (arith, long, c.requires.within)) c.loop-done.invariant.bytes c.write_part.ensures.bytes;
    }
