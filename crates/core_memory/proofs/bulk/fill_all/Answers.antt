use Rattle.std.proofs.Common.{◌+◌, refl, arith}
use Rattle.core_memory.proofs.Turns.{fill_none, fill_turn}
use Rattle.core_memory.proofs.bulk.fill_all.Goals as goal

pub loop-done-init : goal.loop-done-init
loop-done-init c = record { within = omega arith; edits = fill_none _ _ _ c.requires.paged }

pub loop-done-preserved : goal.loop-done-preserved
loop-done-preserved c = record {
  within = omega arith;
  edits = fill_turn c.args.pages.now.items c.loop-done.pages.items c.fill_piece.new.pages.items c.args.at c.loop-done.done c.min-count.result (c.loop-done.done + c.min-count.result) c.args.value
      c.requires.paged (omega arith) refl c.loop-done.invariant.edits c.fill_piece.ensures;
}
