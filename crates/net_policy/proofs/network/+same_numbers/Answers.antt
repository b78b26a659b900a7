use Rattle.std.proofs.Common.{sym, ◌∙◌, ap, ◌&&◌, arith}
use Rattle.std.proofs.lemmas.Grind.{common_steps}
use Rattle.net_policy.proofs.NumberLemmas.{both_by, not_alike}
use Rattle.net_policy.proofs.network.+same_numbers.Goals as goal

pub returns-then-same_bits : goal.returns-then-same_bits
returns-then-same_bits t c =
    let all = both_by c.args.left c.args.width c.saturating_sub.result c.args.ours.now c.args.theirs.now 0 c.index-theirs-0.result c.from.result c.number_in.result c.same_bits.result c.same_numbers.result (grind (arith, common_steps)) (grind (arith, common_steps)) c.from.ensures (grind (arith, common_steps)) (grind (arith, common_steps)) c.same_bits.ensures c.same_numbers.ensures in
    sym (ap (λ b. b && c.same_numbers.result) c.if-same_bits.true) ∙ all

pub returns-else-same_bits : goal.returns-else-same_bits
returns-else-same_bits t c =
    not_alike c.args.left c.args.width c.args.ours.now c.args.theirs.now 0 c.index-theirs-0.result c.from.result c.number_in.result c.same_bits.result (grind (arith, common_steps)) (grind (arith, common_steps)) c.from.ensures (grind (arith, common_steps)) c.same_bits.ensures c.if-same_bits.false
