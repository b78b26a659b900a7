use Rattle.std.proofs.Common.{◌≡◌, drop}
use Rattle.wasm_ast.specs.declared.module.Export.{Export}
use Rattle.core_validate.specs.Gather.{gather}
use Rattle.core_validate.specs.Spaces.{marked, exported_functions}
use Rattle.core_validate.proofs.marks.mark_exports.Given as goal

abbrev pub invariant-loop-export : goal.invariant-loop-export
invariant-loop-export l = marked (gather (λ (e : Export). exported_functions e.item) (drop l.export-index l.exports)) l.marks ≡ marked (gather (λ (e : Export). exported_functions e.item) l.exports) l.fn.marks
