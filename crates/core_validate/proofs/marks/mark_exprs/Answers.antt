use Rattle.std.proofs.Common.{◌≡◌, ◌∙◌, ◌+◌, ap, sym, drop}
use Rattle.core_validate.specs.Gather.{gather}
use Rattle.core_validate.specs.Spaces.{marked, functions_in_code}
use Rattle.core_validate.proofs.GatherLemmas.{marked-step, marked-end}
use Rattle.core_validate.proofs.marks.mark_exprs.Goals as goal

pub loop-expr-preserved : goal.loop-expr-preserved
loop-expr-preserved c =
    let i = c.loop-expr.expr-index in
    ap (marked (gather functions_in_code (drop (i + 1) c.args.exprs.now))) (c.mark_code.ensures ∙ ap (λ l. marked (functions_in_code l) c.loop-expr.marks) (c.as_slice.ensures ∙ c.code-code.ensures))
    ∙ marked-step functions_in_code c.args.exprs.now i c.expr-item.result c.loop-expr.marks c.loop-expr-test.true c.expr-item.is ∙ c.loop-expr.invariant

pub returns : goal.returns
returns c = sym (marked-end functions_in_code c.args.exprs.now c.loop-expr.expr-index c.loop-expr.marks c.loop-expr-test.false) ∙ c.loop-expr.invariant
