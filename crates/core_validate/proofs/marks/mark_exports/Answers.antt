use Rattle.std.proofs.Common.{◌≡◌, ◌∙◌, ◌+◌, ap, sym, drop}
use Rattle.wasm_ast.specs.declared.module.Export.{Export}
use Rattle.core_validate.specs.Gather.{gather}
use Rattle.core_validate.specs.Spaces.{marked, exported_functions}
use Rattle.core_validate.proofs.GatherLemmas.{marked-step, marked-end}
use Rattle.core_validate.proofs.marks.mark_exports.Goals as goal

pub loop-export-preserved : goal.loop-export-preserved
loop-export-preserved c =
    let i = c.loop-export.export-index in
    ap (marked (gather (λ (e : Export). exported_functions e.item) (drop (i + 1) c.args.exports.now))) c.mark_export.ensures
    ∙ marked-step (λ (e : Export). exported_functions e.item) c.args.exports.now i c.export-item.result c.loop-export.marks c.loop-export-test.true c.export-item.is ∙ c.loop-export.invariant

pub returns : goal.returns
returns c = sym (marked-end (λ (e : Export). exported_functions e.item) c.args.exports.now c.loop-export.export-index c.loop-export.marks c.loop-export-test.false) ∙ c.loop-export.invariant
