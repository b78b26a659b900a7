use Rattle.std.proofs.Common.{◌≤◌, subst}
use Rattle.adapter_bytes.specs.Weight.{weight_in, most_weight, AreNumberedStubs}
use Rattle.adapter_bytes.proofs.bytes.emit_bytes.Goals as goal

pub emit_light-requires-clause-numbered : goal.emit_light-requires-clause-numbered
emit_light-requires-clause-numbered c = subst AreNumberedStubs c.deref.ensures.value (c.in_ok-is_light.ensures.numbered c.if-not-branch.false)

pub emit_light-requires-clause-light : goal.emit_light-requires-clause-light
emit_light-requires-clause-light c = subst (λ l. weight_in l ≤ most_weight) c.deref.ensures.value (c.in_ok-is_light.ensures.light.0 c.if-not-branch.false)
