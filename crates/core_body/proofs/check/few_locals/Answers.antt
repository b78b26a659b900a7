use Rattle.std.proofs.Common.{ap, ◌∙◌, sym, Some, None, cond}
use Rattle.virt_base.specs.declared.core_type.CoreType.TheVariants.{I32}
use Rattle.wasm_ast.specs.declared.module.LocalRun.{LocalRun}
use Rattle.core_body.proofs.RunLemmas.{counts-stop, counts-go_on, counts-done}
use Rattle.core_body.proofs.check.few_locals.Goals as goal

pub returns-then-run-left : goal.returns-then-run-left
returns-then-run-left c =
    let d : LocalRun = record { count = 0; ty = I32 } in
    ap (λ b. cond b None (Some 11)) (sym (counts-stop c.args.runs.now c.loop-run.run-index c.loop-run.left d c.loop-run-test.true c.if-run-left.true) ∙ c.loop-run.invariant)

pub loop-run-preserved : goal.loop-run-preserved
loop-run-preserved c =
    let d : LocalRun = record { count = 0; ty = I32 } in
    counts-go_on c.args.runs.now c.loop-run.run-index c.loop-run.left d c.loop-run-test.true c.if-run-left.false ∙ c.loop-run.invariant

pub returns : goal.returns
returns c = ap (λ b. cond b None (Some 11)) (sym (counts-done c.args.runs.now c.loop-run.run-index c.loop-run.left c.loop-run-test.false) ∙ c.loop-run.invariant)
