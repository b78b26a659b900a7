use Rattle.std.proofs.Common.{arith}
use Rattle.virt_engine.proofs.Adding.{next_piece, broken_piece}
use Rattle.virt_engine.proofs.write_out.add_pieces.Goals as goal

pub returns-in_err-append : goal.returns-in_err-append
returns-in_err-append g c = broken_piece _ c.loop-at.at c.min.result c.args.bytes.now _ _ _ _ _ c.from_residual.ensures.0 c.loop-at.invariant.added c.in_err-append.ensures

pub loop-at-preserved : goal.loop-at-preserved
loop-at-preserved g c = record {
  within = omega arith;
  added = next_piece _ c.loop-at.at c.min.result c.args.bytes.now _ _ _ c.loop-at.invariant.added c.in_ok-append.ensures;
}
