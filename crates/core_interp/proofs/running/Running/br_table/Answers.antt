use Rattle.std.proofs.Common.{◌∙◌, ap}
use Rattle.core_store.specs.Eval.{target}
use Rattle.wasm_ast.specs.declared.instr.Instr.TheVariants.{BrTable}
use Rattle.core_interp.proofs.Entering.{leads_from}
use Rattle.core_interp.proofs.AtHand.{within_held, table_held, label_held}
use Rattle.core_interp.proofs.Stepping.{table_needs, table_can, table_goes}
use Rattle.core_interp.proofs.running.Running.br_table.Goals as goal

pub pop-requires : goal.pop-requires
pop-requires c = table_needs c.args.self.now c.args.store.now c.requires.table.table c.requires.table.before

pub label_at-label-requires-clause-within : goal.label_at-label-requires-clause-within
label_at-label-requires-clause-within c = within_held c.args.code.now (BrTable c.requires.table.table) c.args.self.now c.args.store.now c.requires.code c.requires.table.before

pub label_at-label-requires-clause-table : goal.label_at-label-requires-clause-table
label_at-label-requires-clause-table c = table_held c.args.code.now c.requires.table.table c.args.self.now c.args.store.now c.requires.code c.requires.table.before

pub branch-flow-requires : goal.branch-flow-requires
branch-flow-requires c = table_can c.args.self.now c.args.store.now c.requires.table.table c.pop.result c.label_at-label.result c.pop.new.self c.requires.table.before c.pop.ensures (label_held c.args.code.now c.requires.table.table c.args.self.now c.args.store.now _ _ c.requires.code c.requires.table.before c.label_at-label.ensures ∙ ap (target c.requires.table.table.value) c.low-index.ensures)

pub returns-clause-leads : goal.returns-clause-leads
returns-clause-leads c =
    leads_from _ _ c.branch-flow.result c.branch-flow.new.self c.branch-flow.new.store (λ rs n. table_goes c.args.self.now c.args.store.now c.requires.table.table c.pop.result c.label_at-label.result c.pop.new.self rs n c.requires.table.before c.pop.ensures (label_held c.args.code.now c.requires.table.table c.args.self.now c.args.store.now _ _ c.requires.code c.requires.table.before c.label_at-label.ensures ∙ ap (target c.requires.table.table.value) c.low-index.ensures)) c.branch-flow.ensures.leads
