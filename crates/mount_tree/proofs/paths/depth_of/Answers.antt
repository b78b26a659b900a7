use Rattle.std.proofs.Common.{arith, ap, length}
use Rattle.mount_tree.proofs.PathLemmas.{same_names}
use Rattle.mount_tree.proofs.paths.depth_of.Goals as goal

pub loop-byte-preserved : goal.loop-byte-preserved
loop-byte-preserved c =
    let same = same_names c.in-Some.byte.now c.loop-byte.rest.now c.in-Some.more.now c.in-Some.ensures.cases.0 c.if-byte-eq47.false in
    let size = ap length c.in-Some.ensures.cases.0 in
    let so = c.loop-byte.invariant in
    (omega (arith, same, so.0), omega (arith, size, so.1))
