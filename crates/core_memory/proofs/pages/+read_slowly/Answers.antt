use Rattle.std.proofs.Common.{◌<◌, arith}
use Rattle.core_memory.proofs.Memories.{next_number, next_fits, short_fits}
use Rattle.core_memory.proofs.Sequence.{length_bytes_in}
use Rattle.core_memory.proofs.pages.+read_slowly.Goals as goal

pub overflow_mul-result : goal.overflow_mul-result
overflow_mul-result t c =
    let some : 0 < c.args.width = grind arith in
    let small = short_fits c.args.width c.read_slowly.result c.requires.short some c.read_slowly.ensures.fits in omega arith

pub overflow_add-result : goal.overflow_add-result
overflow_add-result t c =
    let some : 0 < c.args.width = grind arith in
    let small = short_fits c.args.width c.read_slowly.result c.requires.short some c.read_slowly.ensures.fits in omega arith

pub returns-clause-value : goal.returns-clause-value
returns-clause-value t c =
    let some : 0 < c.args.width = grind arith in
    let n = length_bytes_in c.args.pages.now c.requires.paged in
    next_number _ c.args.at c.args.width c.byte_at.result c.read_slowly.result (omega arith) some c.byte_at.ensures c.read_slowly.ensures.value

pub returns-clause-fits : goal.returns-clause-fits
returns-clause-fits t c =
    let some : 0 < c.args.width = grind arith in
    next_fits c.args.width c.byte_at.result c.read_slowly.result some (omega arith) c.read_slowly.ensures.fits
