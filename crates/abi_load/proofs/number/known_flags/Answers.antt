use Rattle.std.proofs.Common.{◌≤◌, ◌<◌, ◌^◌, sym, arith, lit<}
use Rattle.std.proofs.Math.Nat.{pow-le-pow_right, mod-eq_of_lt}
use Rattle.abi_load.proofs.number.known_flags.Goals as goal

pub returns-then-labels-ge32 : goal.returns-then-labels-ge32
returns-then-labels-ge32 c =
    let wide : 2 ^ 32 ≤ 2 ^ c.args.labels = pow-le-pow_right (lit< tt) c.if-labels-ge32.true in
    let lt : c.args.bits < 2 ^ c.args.labels = omega arith in
    sym (mod-eq_of_lt lt)
