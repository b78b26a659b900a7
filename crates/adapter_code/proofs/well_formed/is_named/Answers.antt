use Rattle.std.proofs.Common.{refl, arith}
use Rattle.adapter_code.proofs.Codes.{named_get}
use Rattle.adapter_code.proofs.well_formed.is_named.Goals as goal

pub returns-then-other-name : goal.returns-then-other-name
returns-then-other-name c = (λ e. named_get c.args.name c.args.names.now c.loop-other.other-index 0 (omega (arith, c.loop-other-test.true)) c.if-other-name.true, λ w. refl)
