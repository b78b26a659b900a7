use Rattle.std.proofs.Common.{◌∙◌, ap, sym}
use Rattle.policy_text.specs.Hex.{hex_bytes}
use Rattle.policy_text.proofs.HexTurns.{hex_turn, in_front}
use Rattle.policy_text.proofs.hex.hex_bytes.Goals as goal

pub loop-high-preserved : goal.loop-high-preserved
loop-high-preserved c =
    c.loop-high.invariant ∙ (hex_turn c.loop-high.bytes c.loop-high.rest.now c.in-Some.more.now c.in-Some-split_first.more.now
    c.in-Some.high.now c.in-Some-split_first.low.now c.in-Some-Some.high c.in-Some-Some.low
    c.in-Some.ensures.cases.0 c.in-Some-split_first.ensures.cases.0 (sym c.in-Some-Some.ensures.value) (sym c.in-Some-Some.ensures'.value)
    ∙ ap (λ bytes. in_front bytes (hex_bytes c.in-Some-split_first.more.now)) (sym c.in_ok-push-in-Some-Some.ensures.ok))
