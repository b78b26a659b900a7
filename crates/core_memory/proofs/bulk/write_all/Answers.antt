use Rattle.std.proofs.Common.{◌+◌, refl, arith}
use Rattle.core_memory.proofs.Turns.{write_turn}
use Rattle.core_memory.proofs.bulk.write_all.Goals as goal

pub loop-done-preserved : goal.loop-done-preserved
loop-done-preserved c = record {
  within = omega arith;
  edits = write_turn c.args.pages.now.items c.loop-done.pages.items c.write_piece.new.pages.items c.args.at c.loop-done.done c.min-count.result (c.loop-done.done + c.min-count.result) c.args.bytes.now _
      c.requires.paged c.requires.within refl (omega arith) refl c.loop-done.invariant.edits c.write_piece.ensures;
}
