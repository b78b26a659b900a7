use Rattle.std.proofs.Common.{◌+◌, refl, arith}
use Rattle.core_memory.proofs.Turns.{copy_up_turn}
use Rattle.core_memory.proofs.bulk.copy_up.Goals as goal

pub loop-done-preserved : goal.loop-done-preserved
loop-done-preserved c = record {
  within = omega arith;
  edits = copy_up_turn c.args.pages.now.items c.loop-done.pages.items c.copy_piece.new.pages.items c.args.to c.args.from c.args.len c.loop-done.done c.min-count.result (c.loop-done.done + c.min-count.result)
      c.requires.paged c.requires.down c.requires.from refl (omega arith) c.loop-done.invariant.edits c.copy_piece.ensures;
}
