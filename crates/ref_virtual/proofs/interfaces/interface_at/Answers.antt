use Rattle.std.proofs.Common.{◌<◌, ◌≤◌, arith}
use Rattle.ref_virtual.proofs.InterfaceLemmas.{rows_at, no_rows}
use Rattle.ref_virtual.proofs.interfaces.interface_at.Goals as goal

pub returns-then-number-lt19 : goal.returns-then-number-lt19
returns-then-number-lt19 c =
    let below : c.args.number < 19 = omega arith in
    rows_at c.args.number _ below

pub returns-else-number-lt19 : goal.returns-else-number-lt19
returns-else-number-lt19 c =
    let past : 19 ≤ c.args.number = omega arith in
    no_rows c.args.number past
