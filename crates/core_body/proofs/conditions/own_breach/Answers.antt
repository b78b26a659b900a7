use Rattle.std.proofs.Common.{ap, ◌∙◌, sym, map, ◌∷◌}
use Rattle.wasm_ast.specs.declared.instr.BranchTable.{BranchTable}
use Rattle.wasm_ast.specs.declared.instr.Instr.{Instr}
use Rattle.core_body.specs.Conditions.{least, conditions, LabelAt}
use Rattle.core_body.specs.Views.{context_of}
use Rattle.core_body.proofs.conditions.own_breach.Goals as goal

pub returns-in-BrTable : goal.returns-in-BrTable
returns-in-BrTable c =
    c.table_of_labels.ensures ∙ ap (λ (t : BranchTable). least (context_of c.args.scope.now) (map (LabelAt c.args.labels) (t.default ∷ t.labels))) c.deref.ensures
    ∙ sym (ap (λ (i : Instr). least (context_of c.args.scope.now) (conditions c.args.labels i)) c.in-BrTable.is)
