use Rattle.std.proofs.Common.{◌≡◌, ◌∙◌, ap, sym, ◌++◌}
use Rattle.wasm_ast.specs.declared.module.Import.{Import}
use Rattle.core_validate.specs.Spaces.{globals_of}
use Rattle.core_validate.proofs.GatherLemmas.{gather-step, gather-all}
use Rattle.core_validate.proofs.collect.imported_globals.Goals as goal

pub loop-import-preserved : goal.loop-import-preserved
loop-import-preserved c =
    c.in_ok-push_global.ensures ∙ ap (λ l. l ++ globals_of c.import-item.result.item) c.loop-import.invariant
    ∙ sym (gather-step (λ (i : Import). globals_of i.item) c.args.imports.now c.loop-import.import-index c.import-item.result c.loop-import-test.true c.import-item.is)

pub returns : goal.returns
returns c = c.loop-import.invariant ∙ gather-all (λ (i : Import). globals_of i.item) c.args.imports.now c.loop-import.import-index c.loop-import-test.false
