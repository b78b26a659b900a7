use Rattle.std.proofs.Common.{◌≤◌, ◌^◌, arith, lit<}
use Rattle.std.proofs.Math.Nat.{pow-le-pow_right}
use Rattle.std.proofs.lemmas.Bool.Decides.{nat_tests}
use Rattle.wit_types.proofs.typing.fits_flags.Goals as goal

pub returns-then-count-ge32 : goal.returns-then-count-ge32
returns-then-count-ge32 c =
    let wide : 2 ^ 32 ≤ 2 ^ c.args.count = pow-le-pow_right (lit< tt) c.if-count-ge32.true in
    grind (arith, nat_tests)
