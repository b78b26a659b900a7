use Rattle.std.proofs.Common.{◌≡◌, ◌∙◌, ◌+◌, ap, sym, drop}
use Rattle.wasm_ast.specs.declared.module.Global.{Global}
use Rattle.core_validate.specs.Gather.{gather}
use Rattle.core_validate.specs.Spaces.{marked, functions_in_code}
use Rattle.core_validate.proofs.GatherLemmas.{marked-step, marked-end}
use Rattle.core_validate.proofs.marks.mark_globals.Goals as goal

pub loop-global-preserved : goal.loop-global-preserved
loop-global-preserved c =
    let i = c.loop-global.global-index in
    ap (marked (gather (λ (g : Global). functions_in_code g.init) (drop (i + 1) c.args.globals.now))) (c.mark_code.ensures ∙ ap (λ l. marked (functions_in_code l) c.loop-global.marks) (c.as_slice.ensures ∙ c.code-code.ensures))
    ∙ marked-step (λ (g : Global). functions_in_code g.init) c.args.globals.now i c.global-item.result c.loop-global.marks c.loop-global-test.true c.global-item.is ∙ c.loop-global.invariant

pub returns : goal.returns
returns c = sym (marked-end (λ (g : Global). functions_in_code g.init) c.args.globals.now c.loop-global.global-index c.loop-global.marks c.loop-global-test.false) ∙ c.loop-global.invariant
