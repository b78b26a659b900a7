use Rattle.std.proofs.Common.{◌≡◌, ◌≤◌, ◌+◌, ◌∙◌, sym, ap, arith, length, get_or}
use Rattle.virt_base.specs.declared.core_type.CoreType.TheVariants.{I32}
use Rattle.wasm_ast.specs.declared.module.LocalRun.{LocalRun}
use Rattle.core_body.specs.declared.locals.RunEnd.{RunEnd}
use Rattle.core_body.proofs.RunLemmas.{last_end, IsRising-push, last_end-push, filled-step}
use Rattle.core_body.proofs.locals.Locals.new.Goals as goal

pub loop-run-preserved : goal.loop-run-preserved
loop-run-preserved c =
    let p = length c.args.params.now in
    let ends = c.loop-run.ends.items in
    let d : LocalRun = record { count = 0; ty = I32 } in
    let run : LocalRun = get_or c.args.runs.now c.loop-run.run-index d in
    let e : RunEnd = record { end = c.in-Some.end; ty = run.ty } in
    let is : c.in-Some.end ≡ c.loop-run.end + run.count = c.in-Some.ensures.1 in
    let last : c.in-Some.end ≡ last_end p ends + run.count = is ∙ ap (λ n. n + run.count) c.loop-run.invariant.last in
    let low : last_end p ends ≤ c.in-Some.end = omega arith in
    rw c.in_ok-push.ensures.items (record {
      rising = IsRising-push p ends e c.loop-run.invariant.rising low;
      last = sym (last_end-push p ends e);
      filled = filled-step p ends c.args.runs.now c.loop-run.run-index d c.in-Some.end c.loop-run-test.true c.loop-run.invariant.filled last;
    })
