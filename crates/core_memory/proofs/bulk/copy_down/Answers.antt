use Rattle.std.proofs.Common.{◌-◌, arith}
use Rattle.core_memory.proofs.Turns.{copy_down_none, copy_down_turn}
use Rattle.core_memory.proofs.bulk.copy_down.Goals as goal

pub loop-left-init : goal.loop-left-init
loop-left-init c = record { within = omega arith; edits = copy_down_none _ _ _ _ c.requires.paged }

pub loop-left-preserved : goal.loop-left-preserved
loop-left-preserved c = record {
  within = omega arith;
  edits = copy_down_turn c.args.pages.now.items c.loop-left.pages.items c.copy_piece.new.pages.items c.args.to c.args.from c.args.len c.loop-left.left c.min-count.result (c.loop-left.left - c.min-count.result)
      c.requires.paged c.requires.up c.requires.to (omega arith) c.loop-left.invariant.within c.loop-left.invariant.edits c.copy_piece.ensures;
}
