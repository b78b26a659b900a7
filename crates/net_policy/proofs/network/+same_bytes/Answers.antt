use Rattle.std.proofs.Common.{sym, ◌∙◌, ap, ◌&&◌, arith}
use Rattle.std.proofs.lemmas.Grind.{common_steps}
use Rattle.net_policy.proofs.ByteLemmas.{both_by, not_alike}
use Rattle.net_policy.proofs.network.+same_bytes.Goals as goal

pub returns-then-same_bits : goal.returns-then-same_bits
returns-then-same_bits t c =
    let all = both_by c.args.left c.args.width c.saturating_sub.result c.args.ours.now c.args.theirs.now 0 0 c.from.result c.from-2.result c.same_bits.result c.same_bytes.result (grind (arith, common_steps)) (grind (arith, common_steps)) c.from.ensures c.from-2.ensures (grind (arith, common_steps)) c.same_bits.ensures c.same_bytes.ensures in
    sym (ap (λ b. b && c.same_bytes.result) c.if-same_bits.true) ∙ all

pub returns-else-same_bits : goal.returns-else-same_bits
returns-else-same_bits t c =
    not_alike c.args.left c.args.width c.args.ours.now c.args.theirs.now 0 0 c.from.result c.from-2.result c.same_bits.result (grind (arith, common_steps)) (grind (arith, common_steps)) c.from.ensures c.from-2.ensures c.same_bits.ensures c.if-same_bits.false
