use Rattle.std.proofs.Common.{sym, subst, List}
use Rattle.wasm_ast.specs.declared.component.Section.{Section}
use Rattle.comp_joined.specs.Form.{IsPast}
use Rattle.comp_joined.proofs.Joined.{past_one}
use Rattle.comp_joined.proofs.form.past_names.Goals as goal

pub loop-first-preserved : goal.loop-first-preserved
loop-first-preserved c = λ end past. c.loop-first.invariant end
    (subst (λ (xs : List Section). IsPast xs end) (sym c.in-Some.ensures.cases.0) (past_one c.in-Some.first.now c.in-Some.more.now end (c.makes_nothing.ensures c.if-not-makes_nothing.false) past))
