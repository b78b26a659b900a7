use Rattle.std.proofs.Common.{◌+◌, ◌∙◌, ap, refl, drop, arith}
use Rattle.core_body.proofs.PartLemmas.{same-more}
use Rattle.core_body.proofs.parts.same_from.Goals as goal

pub loop-done-preserved : goal.loop-done-preserved
loop-done-preserved c =
    λ text level.
    same-more text c.args.level.now.names.items c.behind-left.result.now c.behind-right.result.now c.args.level.now.size c.args.i c.args.j c.min-at.result c.loop-done.done
    (c.min-at.result + c.args.level.now.size) level (c.behind-left.ensures ∙ ap (drop c.args.i) c.as_slice-names.ensures.value)
    (c.behind-right.ensures ∙ ap (drop c.args.j) c.as_slice-names.ensures.value) c.if-not-one_name.ensures (omega (arith, c.min-at.ensures)) refl
    (c.loop-done.invariant text level)
