use Rattle.std.proofs.Common.{◌≡◌, ◌∙◌, ap, sym, ◌++◌}
use Rattle.wasm_ast.specs.declared.module.Export.{Export}
use Rattle.wasm_ast.specs.declared.module.Global.{Global}
use Rattle.core_validate.specs.Gather.{gather}
use Rattle.core_validate.specs.Spaces.{marked, exported_functions, element_functions, functions_in_code}
use Rattle.core_validate.proofs.GatherLemmas.{marked-both}
use Rattle.core_validate.proofs.marks.mark_declared.Goals as goal

pub returns : goal.returns
returns c =
    let m = c.args.core.now in
    let old = c.args.marks.now in
    let exports = gather (λ (e : Export). exported_functions e.item) m.exports in
    let segments = gather element_functions m.elements in
    let globals = gather (λ (g : Global). functions_in_code g.init) m.globals in
    c.mark_globals.ensures ∙ ap (λ l. marked (gather (λ (g : Global). functions_in_code g.init) l) c.mark_segments.new.marks) c.as_slice-3.ensures
    ∙ ap (marked globals) (c.mark_segments.ensures ∙ ap (λ l. marked (gather element_functions l) c.mark_exports.new.marks) c.as_slice-2.ensures
    ∙ ap (marked segments) (c.mark_exports.ensures ∙ ap (λ l. marked (gather (λ (e : Export). exported_functions e.item) l) old) c.as_slice.ensures))
    ∙ sym (marked-both exports (segments ++ globals) old ∙ marked-both segments globals (marked exports old))
