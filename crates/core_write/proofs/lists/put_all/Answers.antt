use Rattle.std.proofs.Common.{◌++◌}
use Rattle.wasm_format.specs.Format.{write_items}
use Rattle.wasm_format.proofs.Writing.{fits_first, fits_rest, one_more}
use Rattle.core_write.proofs.lists.put_all.Goals as goal

pub write-requires : goal.write-requires
write-requires g c = fits_first (g.W.Writer.format c.args.writer.now) c.args.items.now c.loop-item.item-index c.item-item.result c.loop-item-test.true c.item-item.is c.loop-item.invariant.fits

pub loop-item-preserved : goal.loop-item-preserved
loop-item-preserved g c =
    let F = g.W.Writer.format c.args.writer.now in
    record {
      written = rw c.in_ok-write.ensures (one_more F c.loop-item.out.items (c.args.out.now.items ++ write_items F c.args.items.now) c.args.items.now c.loop-item.item-index c.item-item.result c.loop-item-test.true c.item-item.is c.loop-item.invariant.written);
      fits = fits_rest F c.args.items.now c.loop-item.item-index c.item-item.result c.loop-item-test.true c.item-item.is c.loop-item.invariant.fits;
    }
