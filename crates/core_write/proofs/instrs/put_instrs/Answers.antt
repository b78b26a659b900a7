use Rattle.std.proofs.Common.{◌++◌, true}
use Rattle.wasm_format.specs.Format.{write_items}
use Rattle.wasm_format.proofs.Writing.{fits_first, fits_rest, one_more}
use Rattle.wasm_ast.specs.Instructions.{instr}
use Rattle.core_write.proofs.instrs.put_instrs.Goals as goal

pub write-requires : goal.write-requires
write-requires c = fits_first (instr true) c.args.instrs.now c.loop-instr.instr-index c.instr-item.result c.loop-instr-test.true c.instr-item.is c.loop-instr.invariant.fits

pub loop-instr-preserved : goal.loop-instr-preserved
loop-instr-preserved c =
    let F = instr true in
    record {
      written = rw c.in_ok-write.ensures (one_more F c.loop-instr.out.items (c.args.out.now.items ++ write_items F c.args.instrs.now) c.args.instrs.now c.loop-instr.instr-index c.instr-item.result c.loop-instr-test.true c.instr-item.is c.loop-instr.invariant.written);
      fits = fits_rest F c.args.instrs.now c.loop-instr.instr-index c.instr-item.result c.loop-instr-test.true c.instr-item.is c.loop-instr.invariant.fits;
    }
