use Rattle.std.proofs.Common.{◌≡◌, drop}
use Rattle.wasm_ast.specs.declared.module.Global.{Global}
use Rattle.core_validate.specs.Gather.{gather}
use Rattle.core_validate.specs.Spaces.{marked, functions_in_code}
use Rattle.core_validate.proofs.marks.mark_globals.Given as goal

abbrev pub invariant-loop-global : goal.invariant-loop-global
invariant-loop-global l = marked (gather (λ (g : Global). functions_in_code g.init) (drop l.global-index l.globals)) l.marks ≡ marked (gather (λ (g : Global). functions_in_code g.init) l.globals) l.fn.marks
