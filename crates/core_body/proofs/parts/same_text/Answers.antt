use Rattle.std.proofs.Common.{◌-◌, arith}
use Rattle.std.proofs.lemmas.Bool.{OnTrue_at, OnTrue_from}
use Rattle.core_body.proofs.PartLemmas.{level-at}
use Rattle.core_body.proofs.parts.same_text.Goals as goal

pub returns-then-level-len : goal.returns-then-level-len
returns-then-level-len c =
    OnTrue_from c.same_from.result _
    (λ e text levels.
    OnTrue_at e c.same_from.ensures text
    (level-at text c.args.levels.now (c.loop-left.left - 1) c.index-levels-left.result (omega (arith, c.loop-left.invariant, c.loop-left-test.true)) c.index-levels-left.is levels))
