use Rattle.std.proofs.Common.{◌≡◌, rules}
use Rattle.std.specs.Int.{w64, cast_unsigned}
use Rattle.core_interp.proofs.Stepping.{constant_leads}
use Rattle.core_interp.proofs.running.Running.constant.Goals as goal

pub returns-clause-leads : goal.returns-clause-leads
returns-clause-leads c =
    let e : c.cast_unsigned.result ≡ cast_unsigned w64 c.args.value = search rules in
    constant_leads c.args.self.now c.args.store.now c.args.value _ _ c.requires e c.in_ok-push.ensures
